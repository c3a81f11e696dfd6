-- What the rule says by its clauses, and what a call that nothing refuses knows of its record and its arguments.
use mathlib.Core.Path.{◌≡◌, refl}
use mathlib.Core.Bool.{Bool, true, ◌&&◌}
use mathlib.Core.List.{List, [], ◌∷◌}
use Prim.Native.Nat.{ℕ, ◌≤◌}
use lib.IntN.{ℤ}
use lib.ListN.{length}
use borrow.Author.Tests.{leb-true}
use Rattle.refusals.specs.Questions.{question}
use Rattle.refusals.specs.Ranges.{max_clock, clock_ok, optional_clock_ok}
use Rattle.refusals.proofs.Clauses.{left, right}
use Rattle.refusals.proofs.FirstNoFound.{each_yes}
use Rattle.algorithms.specs.Jitter as jitters
use Rattle.algorithms.specs.Owd as owds
use Rattle.gaps.specs.Gaps as gaps
use Rattle.samples.specs.Delay.{reference_ok}
use Rattle.receiver.specs.State.{grace_ok, reorders_ok, keeps_the_rule, clock_refusal}
use Rattle.receiver.specs.Reports.{report_refusal}
use Rattle.receiver.specs.declared.ReceiverState.{ReceiverState}

-- ---- the rule
-- the rule's clauses by name
pub record Kept (s : ReceiverState) : Type 0 where
  pub last_recv : optional_clock_ok s.last_recv_ms ≡ true
  pub last_report : optional_clock_ok s.last_report_ms ≡ true
  pub interval : clock_ok s.report_interval_ms ≡ true
  pub deadline : grace_ok s.rekey_jitter_grace_until_ms ≡ true
  pub jitter : jitters.keeps_the_rule s.jitter ≡ true
  pub window : owds.keeps_the_rule s.owd_trend ≡ true
  pub reference : reference_ok s.owd_ref ≡ true
  pub tracker : gaps.keeps_the_rule s.gap_tracker ≡ true
  pub reorders : reorders_ok s ≡ true

each_clause : (a b c d e f g h i : Bool) → (a && b && c && d && e && f && g && h && i) ≡ true
    → (a ≡ true) × (b ≡ true) × (c ≡ true) × (d ≡ true) × (e ≡ true) × (f ≡ true) × (g ≡ true) × (h ≡ true) × (i ≡ true)
each_clause a b c d e f g h i all =
    let s = left (a && b && c && d && e && f && g && h) i all in
    let t = left (a && b && c && d && e && f && g) h s in
    let u = left (a && b && c && d && e && f) g t in
    let v = left (a && b && c && d && e) f u in
    let w = left (a && b && c && d) e v in
    let x = left (a && b && c) d w in
    let y = left (a && b) c x in
    (left a b y, right a b y, right (a && b) c x, right (a && b && c) d w, right (a && b && c && d) e v, right (a && b && c && d && e) f u, right (a && b && c && d && e && f) g t, right (a && b && c && d && e && f && g) h s, right (a && b && c && d && e && f && g && h) i all)

module _ (s : ReceiverState) where
  pub kept : keeps_the_rule s ≡ true → Kept s
  unfolding keeps_the_rule
  kept h =
      let y =
      each_clause (optional_clock_ok s.last_recv_ms) (optional_clock_ok s.last_report_ms) (clock_ok s.report_interval_ms) (grace_ok s.rekey_jitter_grace_until_ms) (jitters.keeps_the_rule s.jitter)
      (owds.keeps_the_rule s.owd_trend) (reference_ok s.owd_ref) (gaps.keeps_the_rule s.gap_tracker) (reorders_ok s) h in
      record { last_recv = y.0; last_report = y.1; interval = y.2; deadline = y.3; jitter = y.4; window = y.5; reference = y.6; tracker = y.7; reorders = y.8 }

  pub keeps : Kept s → keeps_the_rule s ≡ true
  unfolding keeps_the_rule
  keeps k = rw (k.last_recv, k.last_report, k.interval, k.deadline, k.jitter, k.window, k.reference, k.tracker, k.reorders)

-- ---- the questions of each call
-- the rule, and the clock in range
pub clock_asked : (s : ReceiverState) (now : ℕ) → clock_refusal s now ≡ 0 → (keeps_the_rule s ≡ true) × (now ≤ max_clock)
unfolding clock_refusal
clock_asked s now h = let y = each_yes (question 1 (keeps_the_rule s) ∷ question 2 (clock_ok now) ∷ []) refl h in (y.0, leb-true now max_clock y.1.0)

-- a report: the rule, and the clock
pub report_asked : (s : ReceiverState) (times : List ℕ) (delays : List ℤ) (now : ℕ) → report_refusal s times delays now ≡ 0 → (keeps_the_rule s ≡ true) × (clock_ok now ≡ true)
unfolding report_refusal
report_asked s times delays now h =
    let y = each_yes (question 1 (keeps_the_rule s) ∷ question 2 (clock_ok now) ∷ question 4 (owds.windows_ok s.owd_trend (length times) (length delays)) ∷ question 5 (owds.samples_ok (owds.window s.owd_trend times delays)) ∷ []) refl h in
    (y.0, y.1.0)

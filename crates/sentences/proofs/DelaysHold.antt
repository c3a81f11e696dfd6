-- "OWD PAIRS use the reference's age and the sender timestamp difference modulo 2^32, read as signed 32 bits. AN AGE OF 2^30 ms OR MORE first clears the window and
-- makes this sample the reference."
use Prim.Native.Nat.{ℕ, ◌+◌, ◌-◌, ◌*◌, ◌%◌, ◌^◌, ◌≤◌, ◌<◌}
use mathlib.Core.Path.{◌≡◌, ap, ◌∙◌}
use lib.IntN.{pos, sub_ℕ}
use mir.Syntax.{w32}
use mir.Val.{to_z}
use native.Mathlib.Omega.{arith}
use borrow.Author.Tests.{le-leb, lt-leb}
use Rattle.algorithms.specs.declared.owd.OwdTrendDetector.{OwdTrendDetector}
use Rattle.samples.specs.Delay.{span, younger, reference_after, age_of, sent_ms, delay_us, delay_of, window_for}
use Rattle.samples.specs.Words.{modulo, reduced}
use Rattle.samples.proofs.Differences.{minus}
use Rattle.samples.proofs.Reduction.{modulo_difference}
use Rattle.samples.proofs.DelayInRange.{near, far}
use Rattle.std.specs.Prelude.{Option, Some}
use Rattle.samples.specs.declared.delay.OwdBase.{OwdBase}

-- the reference that came at this time with this timestamp
abbrev pub since : ℕ → ℕ → Option OwdBase
since recv sent = Some (record { recv_ms = recv; sender_timestamp = sent })

-- a reference of 2^30 ms or more
pub renewed : (recv sent now timestamp : ℕ) → recv + 1073741824 ≤ now → reference_after (since recv sent) now timestamp ≡ since now timestamp
unfolding younger
renewed recv sent now timestamp h = simp (le-leb span (now - recv) (omega arith))

pub cleared : (w : OwdTrendDetector) (recv sent now : ℕ) → recv + 1073741824 ≤ now → window_for w (since recv sent) now ≡ record { capacity = w.capacity; count = 0; first = 0 }
unfolding window_for
cleared w recv sent now h = simp (le-leb span (now - recv) (omega arith))

-- a younger one
pub stays : (recv sent now timestamp : ℕ) → now < recv + 1073741824 → reference_after (since recv sent) now timestamp ≡ since recv sent
unfolding younger
stays recv sent now timestamp h = simp (lt-leb span (now - recv) (omega arith))

pub kept : (w : OwdTrendDetector) (recv sent now : ℕ) → now < recv + 1073741824 → window_for w (since recv sent) now ≡ w
unfolding window_for
kept w recv sent now h = simp (lt-leb span (now - recv) (omega arith))

-- ---- the delay beside a younger one, in µs: the age less the step of the sender's timestamp, which wraps at 2^32
word : (sent timestamp d : ℕ) → sent < 4294967296 → d < 4294967296 → timestamp ≡ (sent + d) % 4294967296 → sent_ms timestamp sent ≡ to_z w32 d
unfolding sent_ms reduced
word sent timestamp d hs hd e =
    let m : (timestamp + (2 ^ 32 * 1 - sent)) % 2 ^ 32 ≡ d = omega arith in
    ap (to_z w32) (ap modulo (minus timestamp sent) ∙ modulo_difference timestamp sent 1 (omega arith) ∙ m)

-- the timestamp has gone on by d
pub on_by : (recv sent timestamp now d : ℕ) → now < recv + 1073741824 → sent < 4294967296 → d < 2147483648 → timestamp ≡ (sent + d) % 4294967296 →
    delay_of (since recv sent) timestamp now ≡ sub_ℕ (1000 * (now - recv)) (1000 * d)
unfolding delay_of age_of younger
on_by recv sent timestamp now d h hs hd e = simp (lt-leb span (now - recv) (omega arith)) (ap (delay_us (now - recv)) (word sent timestamp d hs (omega arith) e) ∙ near (now - recv) d hd)

-- it has gone back by d
pub back_by : (recv sent timestamp now d : ℕ) → now < recv + 1073741824 → sent < 4294967296 → 1 ≤ d → d ≤ 2147483648 → sent ≡ (timestamp + d) % 4294967296 → timestamp < 4294967296 →
    delay_of (since recv sent) timestamp now ≡ pos (1000 * (now - recv + d))
unfolding delay_of age_of younger
back_by recv sent timestamp now d h hs h1 hd e ht =
    let whole : timestamp ≡ (sent + (4294967296 - d)) % 4294967296 = omega arith in
    let same : 1000 * (now - recv + (2 ^ 32 - (4294967296 - d))) ≡ 1000 * (now - recv + d) = omega arith in
    simp (lt-leb span (now - recv) (omega arith))
    (ap (delay_us (now - recv)) (word sent timestamp (4294967296 - d) hs (omega arith) whole) ∙ far (now - recv) (4294967296 - d) (omega arith) (omega arith) ∙ ap pos same)

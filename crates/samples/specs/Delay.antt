-- One-way delay from a reference: document 01, "Jitter, delay trend and bursts", and receiver.rs, `sample_owd`. Definitions only.
use Rattle.std.specs.Prelude.{Bool, true, false, cond, ◌&&◌, List, [], ◌∷◌, ℕ, ◌-◌, ◌^◌, leb, eqb, ℤ, pos, ◌-ℤ◌, ◌*ℤ◌, length, None, Option, Some, Result}
use Rattle.refusals.specs.declared.refusal.Refused.{Refused}
use Rattle.algorithms.specs.Owd.{keeps_the_rule, windows_ok, empty, grown}
use Rattle.algorithms.specs.declared.owd.OwdTrendDetector.{OwdTrendDetector}
use Rattle.refusals.specs.Answers.{settled}
use Rattle.refusals.specs.Questions.{question, first_no}
use Rattle.refusals.specs.Ranges.{clock_ok, delay_ok}
use Rattle.samples.specs.Words.{reduced}
use Rattle.samples.specs.declared.delay.OwdSamples.{OwdSamples}
use Rattle.samples.specs.declared.delay.OwdBase.{OwdBase}

-- a delay window and its reference after a sample
pub record OwdSampled : Type 0 where
  pub refusal : ℕ
  pub owd_trend : OwdTrendDetector
  pub owd_ref : Option OwdBase

-- document 01, "State rule": "the OWD reference is absent or a valid pair", its clock in range
abbrev pub reference_ok : Option OwdBase → Bool
reference_ok None = true
reference_ok (Some b) = clock_ok b.recv_ms

-- 2^30 ms
abbrev pub span : ℕ
span = 2 ^ 30

-- "An age of 2^30 ms or more"
abbrev pub too_old : ℕ → ℕ → Bool
too_old recv now = leb span (now - recv)

-- the reference is too old
abbrev pub restarts : Option OwdBase → ℕ → Bool
restarts None now = false
restarts (Some b) now = too_old b.recv_ms now

-- a receive time and a sender timestamp to measure from
abbrev pub base : ℕ → ℕ → OwdBase
base recv timestamp = record { recv_ms = recv; sender_timestamp = timestamp }

-- it "makes this sample the reference"
unfoldable pub younger : OwdBase → ℕ → ℕ → OwdBase
younger b now timestamp = cond (too_old b.recv_ms now) (base now timestamp) b

-- what a sample is measured from: the reference, or the sample itself
abbrev pub base_of : Option OwdBase → ℕ → ℕ → OwdBase
base_of None now timestamp = base now timestamp
base_of (Some b) now timestamp = younger b now timestamp

-- the reference after a sample: what it was measured from
abbrev pub reference_after : Option OwdBase → ℕ → ℕ → Option OwdBase
reference_after r now timestamp = Some (base_of r now timestamp)

-- the reference's age, 0 if the clock fell
unfoldable pub age_of : Option OwdBase → ℕ → ℕ → ℕ
age_of r timestamp now = now - (base_of r now timestamp).recv_ms

-- "the sender timestamp difference modulo 2^32, read as signed 32 bits"
unfoldable pub sent_ms : ℕ → ℕ → ℤ
sent_ms timestamp from = reduced (pos timestamp -ℤ pos from)

-- the age less the sender's difference, in µs
unfoldable pub delay_us : ℕ → ℤ → ℤ
delay_us age sent = pos 1000 *ℤ (pos age -ℤ sent)

-- "OWD pairs use the reference's age and the sender timestamp difference"
unfoldable pub delay_of : Option OwdBase → ℕ → ℕ → ℤ
delay_of r timestamp now = delay_us (age_of r timestamp now) (sent_ms timestamp (base_of r now timestamp).sender_timestamp)

-- the window, which a restart "first clears"
unfoldable pub window_for : OwdTrendDetector → Option OwdBase → ℕ → OwdTrendDetector
window_for w r now = cond (restarts r now) (empty w.capacity) w

-- the window after the sample: one pair more
unfoldable pub pushed : OwdTrendDetector → Option OwdBase → ℕ → OwdTrendDetector
pushed w r now = grown (window_for w r now)

-- ---- the call by itself
-- document 01, question 1 of the window and the reference, 2, 4, and 5 of the sample
unfoldable pub sample_refusal : OwdTrendDetector → Option OwdBase → List ℕ → List ℤ → ℕ → ℕ → ℕ
sample_refusal w r times delays timestamp now =
    first_no (
    question 1 (keeps_the_rule w && reference_ok r)
    ∷ question 2 (clock_ok now)
    ∷ question 4 (windows_ok w (length times) (length delays))
    ∷ question 5 (delay_ok (delay_of r timestamp now))
    ∷ []
    )

-- the window and the reference after a sample whose refusal is n
abbrev pub sampled_by : ℕ → OwdTrendDetector → Option OwdBase → ℕ → ℕ → OwdSampled
sampled_by n w r timestamp now =
    record {
      refusal = n;
      owd_trend = cond (eqb n 0) (pushed w r now) w;
      owd_ref = cond (eqb n 0) (reference_after r now timestamp) r;
    }

unfoldable pub sample_of : OwdTrendDetector → Option OwdBase → List ℕ → List ℤ → ℕ → ℕ → OwdSampled
sample_of w r times delays timestamp now = sampled_by (sample_refusal w r times delays timestamp now) w r timestamp now

-- the same as the call's result
abbrev pub sampled_as : OwdSampled → Result OwdSamples (Refused OwdSamples)
sampled_as o = settled (record { refusal = o.refusal; state = record { owd_trend = o.owd_trend; owd_ref = o.owd_ref } })

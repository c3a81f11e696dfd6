-- A receiver's record, its rule and its fields: document 01, "State rule", and receiver.rs. Definitions only.
use Rattle.std.specs.Prelude.{Bool, true, false, cond, ◌&&◌, [], ◌∷◌, ℕ, ◌+◌, eqb, leb, None, Option, Some}
use Rattle.limits.specs.Limits.{default_cold_start_interval, default_owd_window_size}
use Rattle.refusals.specs.Answers.{Answer, Update, answer}
use Rattle.refusals.specs.Questions.{question, first_no}
use Rattle.refusals.specs.Ranges.{max_clock, clock_ok, optional_clock_ok}
use Rattle.algorithms.specs.Jitter as jitters
use Rattle.algorithms.specs.Owd as owds
use Rattle.pace.specs.Updates.{cold_start_refusal}
use Rattle.gaps.specs.Gaps as gaps
use Rattle.samples.specs.Delay.{reference_ok}
use Rattle.receiver.specs.declared.ReceiverState.{ReceiverState}

-- ---- the rule: document 01, "State rule"
-- "a grace deadline may be 15,000 ms higher"
abbrev pub grace : ℕ
grace = 15000

abbrev pub grace_ok : Option ℕ → Bool
grace_ok None = true
grace_ok (Some ms) = leb ms (max_clock + grace)

-- "Reorders do not exceed lifetime packets"
abbrev pub reorders_ok : ReceiverState → Bool
reorders_ok s = leb s.cumulative_reorder_count s.cumulative_packets_recv

-- clock fields and the report interval obey question 2; jitter, window, reference and tracker keep their rules
unfoldable pub keeps_the_rule : ReceiverState → Bool
keeps_the_rule s =
    optional_clock_ok s.last_recv_ms
    && optional_clock_ok s.last_report_ms
    && clock_ok s.report_interval_ms
    && grace_ok s.rekey_jitter_grace_until_ms
    && jitters.keeps_the_rule s.jitter
    && owds.keeps_the_rule s.owd_trend
    && reference_ok s.owd_ref
    && gaps.keeps_the_rule s.gap_tracker
    && reorders_ok s

-- ---- a new record
-- nothing received, with a window and a first report interval
abbrev pub started_at : ℕ → ℕ → ReceiverState
started_at window ms =
    record {
      cumulative_packets_recv = 0;
      cumulative_bytes_recv = 0;
      cumulative_reorder_count = 0;
      highest_counter = 0;
      interval_packets_recv = 0;
      interval_bytes_recv = 0;
      jitter = jitters.fresh;
      owd_trend = owds.new_of window;
      owd_ref = None;
      gap_tracker = gaps.fresh;
      ecn_ce_count = 0;
      last_sender_timestamp = 0;
      last_recv_ms = None;
      rekey_jitter_grace_until_ms = None;
      last_report_ms = None;
      report_interval_ms = ms;
      interval_has_data = false;
      srtt_sample_count = 0;
      interval_max_lateness = 0;
    }

-- a window of the caller's, and the cold-start interval of limits.rs
abbrev pub with_window : ℕ → ReceiverState
with_window window = started_at window default_cold_start_interval

-- the default: the window of limits.rs too
abbrev pub fresh : ReceiverState
fresh = with_window default_owd_window_size

-- a cold-start interval of the caller's; "A refused constructor, given no state, returns the default one"
unfoldable pub new_of : ℕ → ℕ → Update ReceiverState
new_of window ms = record { refusal = cold_start_refusal ms; state = cond (eqb (cold_start_refusal ms) 0) (started_at window ms) fresh }

-- ---- calls
-- document 01, question 1 alone
unfoldable pub refusal_of : ReceiverState → ℕ
refusal_of s = first_no (question 1 (keeps_the_rule s) ∷ [])

-- document 01, questions 1 and 2
unfoldable pub clock_refusal : ReceiverState → ℕ → ℕ
clock_refusal s now = first_no (question 1 (keeps_the_rule s) ∷ question 2 (clock_ok now) ∷ [])

-- a call on s whose refusal is n and that moves the state to t: the state as given on a refusal
abbrev pub updated : ℕ → ReceiverState → ReceiverState → Update ReceiverState
updated n s t = record { refusal = n; state = cond (eqb n 0) t s }

-- a rekey with a grace until the deadline: lifetime counts and report timing stay, all else begins again
unfoldable pub rekeyed : ReceiverState → ℕ → ReceiverState
rekeyed s deadline =
    record {
      cumulative_packets_recv = s.cumulative_packets_recv;
      cumulative_bytes_recv = s.cumulative_bytes_recv;
      cumulative_reorder_count = 0;
      highest_counter = 0;
      interval_packets_recv = 0;
      interval_bytes_recv = 0;
      jitter = jitters.fresh;
      owd_trend = owds.empty s.owd_trend.capacity;
      owd_ref = None;
      gap_tracker = gaps.fresh;
      ecn_ce_count = 0;
      last_sender_timestamp = 0;
      last_recv_ms = None;
      rekey_jitter_grace_until_ms = Some deadline;
      last_report_ms = s.last_report_ms;
      report_interval_ms = s.report_interval_ms;
      interval_has_data = false;
      srtt_sample_count = s.srtt_sample_count;
      interval_max_lateness = 0;
    }

-- "the rekey deadline (rekey time + 15,000)"
unfoldable pub rekey_of : ReceiverState → ℕ → Update ReceiverState
rekey_of s now = updated (clock_refusal s now) s (rekeyed s (now + grace))

-- ---- the fields, and 0 or none on a refusal
abbrev pub packets_of : ReceiverState → Answer ℕ
packets_of s = answer 0 (refusal_of s) s.cumulative_packets_recv

abbrev pub bytes_of : ReceiverState → Answer ℕ
bytes_of s = answer 0 (refusal_of s) s.cumulative_bytes_recv

abbrev pub highest_of : ReceiverState → Answer ℕ
highest_of s = answer 0 (refusal_of s) s.highest_counter

abbrev pub jitter_of : ReceiverState → Answer ℕ
jitter_of s = answer 0 (refusal_of s) (jitters.jitter_us_of s.jitter).value

abbrev pub interval_of : ReceiverState → Answer ℕ
interval_of s = answer 0 (refusal_of s) s.report_interval_ms

abbrev pub last_recv_of : ReceiverState → Answer (Option ℕ)
last_recv_of s = answer None (refusal_of s) s.last_recv_ms

abbrev pub ecn_of : ReceiverState → Answer ℕ
ecn_of s = answer 0 (refusal_of s) s.ecn_ce_count

-- document 02, W-203: "The receiver keeps the greatest lateness of the interval .. and offers it through an accessor"
abbrev pub lateness_of : ReceiverState → Answer ℕ
lateness_of s = answer 0 (refusal_of s) s.interval_max_lateness

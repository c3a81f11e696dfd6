-- The spin bit as algorithms.rs has it, after RFC 9000, 17.4: an initiator flips it when it comes back, a responder copies it. Definitions only.
use Rattle.std.specs.Prelude.{ℕ, ◌-◌, Bool, false, cond, not, [], ◌∷◌, ◌==◌, nat_lt, None, Option, Some, Result}
use Rattle.std.specs.Bool.{beq}
use Rattle.refusals.specs.Answers.{Answer, Update, answer, settled_with}
use Rattle.refusals.specs.Questions.{question, first_no}
use Rattle.refusals.specs.Ranges.{clock_ok, optional_clock_ok}
use Rattle.refusals.specs.declared.refusal.Refused.{Refused}
use Rattle.algorithms.specs.declared.spin.SpinBitState.{SpinBitState}
use Rattle.algorithms.specs.declared.spin.Observed.{Observed}

-- a state after a frame, with the round trip that the frame ended
pub record SpinObserved : Type 0 where
  pub refusal : ℕ
  pub rtt_ms : Option ℕ
  pub state : SpinBitState

-- document 01, "State rule": the last edge, a clock field, obeys question 2
unfoldable pub keeps_the_rule : SpinBitState → Bool
keeps_the_rule s = optional_clock_ok s.last_edge_ms

-- a state of the role that has seen no frame
abbrev pub fresh : Bool → SpinBitState
fresh role = record { is_initiator = role; current_value = false; highest_counter_for_spin = 0; last_edge_ms = None }

-- document 01, question 1 alone
unfoldable pub refusal_of : SpinBitState → ℕ
refusal_of s = first_no (question 1 (keeps_the_rule s) ∷ [])

-- document 01, questions 1 and 2, the clock of a responder too
unfoldable pub observe_refusal : SpinBitState → ℕ → ℕ
observe_refusal s now = first_no (question 1 (keeps_the_rule s) ∷ question 2 (clock_ok now) ∷ [])

-- a restart keeps the role, and on a refusal the state as given
unfoldable pub restart_of : SpinBitState → Update SpinBitState
restart_of s = record { refusal = refusal_of s; state = cond (refusal_of s == 0) (fresh s.is_initiator) s }

-- the role, and the bit to set on an outgoing frame; no on a refusal
abbrev pub is_initiator_of : SpinBitState → Answer Bool
is_initiator_of s = answer false (refusal_of s) s.is_initiator

abbrev pub tx_bit_of : SpinBitState → Answer Bool
tx_bit_of s = answer false (refusal_of s) s.current_value

-- the round trip that an edge ends: the time since the last one, 0 if the clock fell, none at the first
abbrev pub since_edge : Option ℕ → ℕ → Option ℕ
since_edge None now = None
since_edge (Some edge) now = Some (now - edge)

-- a frame that moves nothing: refused, or its bit is not taken
abbrev pub unmoved : ℕ → SpinBitState → SpinObserved
unmoved n s = record { refusal = n; rtt_ms = None; state = s }

-- an initiator's bit is back: the round trip, the edge's time, the bit flipped
abbrev pub edge : SpinBitState → ℕ → SpinObserved
edge s now =
    record {
      refusal = 0;
      rtt_ms = since_edge s.last_edge_ms now;
      state = record {
        is_initiator = s.is_initiator;
        current_value = not s.current_value;
        highest_counter_for_spin = s.highest_counter_for_spin;
        last_edge_ms = Some now;
      };
    }

-- a responder's bit and counter are those of the frame
abbrev pub taken : SpinBitState → Bool → ℕ → SpinObserved
taken s bit counter =
    record {
      refusal = 0;
      rtt_ms = None;
      state = record {
        is_initiator = s.is_initiator;
        current_value = bit;
        highest_counter_for_spin = counter;
        last_edge_ms = s.last_edge_ms;
      };
    }

-- an initiator: a round trip ends where the bit that it sent is back
unfoldable pub reflected : SpinBitState → Bool → ℕ → SpinObserved
reflected s bit now = cond (beq bit s.current_value) (edge s now) (unmoved 0 s)

-- a responder: the bit is taken from a frame of a higher counter, so that a late frame moves nothing
unfoldable pub copied : SpinBitState → Bool → ℕ → SpinObserved
copied s bit counter = cond (nat_lt s.highest_counter_for_spin counter) (taken s bit counter) (unmoved 0 s)

-- a received frame, by the role
unfoldable pub observed : SpinBitState → Bool → ℕ → ℕ → SpinObserved
observed s bit counter now = cond s.is_initiator (reflected s bit now) (copied s bit counter)

-- the same after the questions: a refusal has no round trip, and the state as given
unfoldable pub rx_observe_of : SpinBitState → Bool → ℕ → ℕ → SpinObserved
rx_observe_of s bit counter now = cond (observe_refusal s now == 0) (observed s bit counter now) (unmoved (observe_refusal s now) s)

-- ---- the same as the calls' results
-- a frame's, which nothing refuses
abbrev pub seen : SpinObserved → Observed
seen o = record { rtt_ms = o.rtt_ms; state = o.state }

abbrev pub observed_as : SpinObserved → Result (SpinBitState × Option ℕ) (Refused SpinBitState)
observed_as o = settled_with o.refusal o.state o.rtt_ms

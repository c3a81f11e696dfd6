-- WHAT THE QUESTIONS LET PASS is what document 01's numbers say.
use mathlib.Core.Path.{◌≡◌, refl}
use mathlib.Core.Bool.{Bool, true, false, cond}
use mathlib.Core.List.{List}
use Prim.Native.Nat.{ℕ, ◌+◌, ◌≤◌, ◌<◌}
use native.Mathlib.Omega.{arith}
use lib.Dec.{leb, ltb}
use lib.IntN.{ℤ}
use lib.ListN.{length}
use lib.Ieee.{Float}
use borrow.Author.Tests.{ltb-true, ltb-false, le-leb, lt-leb}
use Rattle.refusals.specs.Ranges as ranges
use Rattle.std.specs.Prelude.{Ok, Err}
use Rattle.codec.specs.Reading.{too_short, length_answer, values_of}
use Rattle.wire.specs.Payload.{room_answer}
use Rattle.wire.specs.SenderReport as sender
use Rattle.wire.specs.ReceiverReport as receiver
use Rattle.sentences.specs.Checks as paper

pub clocks : (ms : ℕ) → ranges.clock_ok ms ≡ paper.clock ms
clocks ms = refl

pub frame_sizes : (bytes : ℕ) → ranges.frame_size_ok bytes ≡ paper.frame_size bytes
frame_sizes bytes = refl

pub delays : (us : ℤ) → ranges.delay_ok us ≡ paper.delay us
delays us = refl

pub round_trips_lem : (us : ℤ) → ranges.round_trip_ok us ≡ paper.round_trip us
round_trips_lem us = refl

pub smoothed_values : (us : ℤ) → ranges.smoothed_ok us ≡ paper.smoothed us
smoothed_values us = refl

pub bounds : (us : ℤ) (lo hi : ℕ) → ranges.bounds_ok us lo hi ≡ paper.bounds us lo hi
bounds us lo hi = refl

-- a counter of 32 or 64 bits
at_most : (n greatest : ℕ) → ltb n (greatest + 1) ≡ leb n greatest
at_most n greatest = go (ltb n (greatest + 1)) (ltb-true n (greatest + 1)) (ltb-false n (greatest + 1))
  where
    go : (t : Bool) → (t ≡ true → n < greatest + 1) → (t ≡ false → greatest + 1 ≤ n) → t ≡ leb n greatest
    go true l g = let h = l refl in rw (le-leb n greatest (omega arith))
    go false l g = let h = g refl in rw (lt-leb n greatest (omega arith))

pub counters_32 : (count more : ℕ) → ranges.counter_ok 32 count more ≡ paper.counter 4294967295 count more
counters_32 count more = at_most (count + more) 4294967295

pub counters_64 : (count more : ℕ) → ranges.counter_ok 64 count more ≡ paper.counter 18446744073709551615 count more
counters_64 count more = at_most (count + more) 18446744073709551615

pub ratios : (x : Float) → ranges.ratio_ok x ≡ paper.ratio x
ratios x = refl

pub etx : (x : Float) → ranges.etx_ok x ≡ paper.etx x
etx x = refl

pub rtt_ms_lem : (x : Float) → ranges.rtt_ms_ok x ≡ paper.rtt_ms x
rtt_ms_lem x = refl

pub trend_samples : (x : Float) → ranges.trend_ok x ≡ paper.trend_sample x
trend_samples x = refl

-- ---- buffers and payloads
pub sender_room : (out : List ℕ) → sender.encode_answer out ≡ paper.room 48 (length out)
unfolding room_answer
sender_room out = refl

pub receiver_room : (out : List ℕ) → receiver.encode_answer out ≡ paper.room 68 (length out)
unfolding room_answer
receiver_room out = refl

pub sender_payload : (s : List ℕ) → (sender.decoded s).refusal ≡ paper.payload 47 (length s)
unfolding sender.decoded sender.decoded_by length_answer values_of
sender_payload s = go (leb 47 (length s))
  where
    go : (b : Bool) → (values_of (cond b (Ok tt) (Err (too_short s 0 47)))).refusal ≡ cond b 0 7
    go true = refl
    go false = refl

pub receiver_payload : (s : List ℕ) → (receiver.decoded s).refusal ≡ paper.payload 67 (length s)
unfolding receiver.decoded receiver.decoded_by length_answer values_of
receiver_payload s = go (leb 67 (length s))
  where
    go : (b : Bool) → (values_of (cond b (Ok tt) (Err (too_short s 0 67)))).refusal ≡ cond b 0 7
    go true = refl
    go false = refl

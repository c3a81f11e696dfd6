-- What a refusal says as text. Definitions only.
use Rattle.std.specs.Prelude.{ℕ, ◌++◌, List, codes, decimal}
use Rattle.refusals.specs.declared.refusal.Refusal.{Refusal}
use Rattle.refusals.specs.declared.refusal.Refusal.TheVariants.{State, Clocks, FrameSize, Windows, DelaySamples, OutputBuffer, Payload, RoundTrip, IntervalBounds, Counters, Values}
use Rattle.refusals.specs.declared.refusal.NoQuestion.{NoQuestion}

-- the question that was answered no
abbrev pub refusal_text : Refusal → List ℕ
refusal_text State = codes "the state does not keep its rule"
refusal_text Clocks = codes "a clock reading, interval or interval bound is out of range"
refusal_text FrameSize = codes "the frame size is out of range"
refusal_text Windows = codes "a window buffer is not as long as the capacity"
refusal_text DelaySamples = codes "a delay sample is out of range"
refusal_text OutputBuffer = codes "the output buffer is too short"
refusal_text Payload = codes "the payload is too short"
refusal_text RoundTrip = codes "a round trip is out of range"
refusal_text IntervalBounds = codes "the lower interval bound is above the upper"
refusal_text Counters = codes "a counter can't hold the sum"
refusal_text Values = codes "a value handed in beside a state is out of range"

-- the number that is no question's
abbrev pub no_question_text : NoQuestion → List ℕ
no_question_text e = codes "no question has the number " ++ decimal e.0

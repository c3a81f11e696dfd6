-- A receiver whose window is wider than the greatest: document 02, W-202, "Capacity is clamped to 2 to 256, and the state rule follows". Definitions only.
use Rattle.std.specs.Prelude.{◌≡◌, ◌≢◌, false, ◌<◌}
use Rattle.receiver.specs.declared.ReceiverState.{ReceiverState}
use Rattle.history.specs.Paper.{greatest_window}
use Rattle.history.specs.Answers.{Fact, Answer}
use Rattle.history.specs.ReceiverCalls.{ReceiverQuestion, ReceiverCall, receiver_step}

-- whether the record keeps its rule: the one question that asks nothing
abbrev pub keeps_the_rule : ReceiverCall
keeps_the_rule = ReceiverCall.ask ReceiverQuestion.keeps_rule

-- every other call is refused by 1, whatever its arguments and windows, and hands the record back as it was
pub record Refused (c : ReceiverCall) (s : ReceiverState) : Type 0 where
  pub by_rule : (receiver_step c s).refusal ≡ 1
  pub stays : (receiver_step c s).state ≡ s

pub record Wide (s : ReceiverState) : Type 0 where
  pub lawless : (receiver_step keeps_the_rule s).answer ≡ Answer.told (Fact.yes_or_no false)
  pub refused : (c : ReceiverCall) → c ≢ keeps_the_rule → Refused c s

-- any record with such a window
abbrev pub WideHolds : Type 0
WideHolds = (s : ReceiverState) → greatest_window < s.owd_trend.capacity → Wide s

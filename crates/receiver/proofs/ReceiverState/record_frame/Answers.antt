-- Question 5 is left out, and the windows after the frame are counted from the record before it.
use Rattle.std.proofs.Common.{sym, ◌∙◌}
use Rattle.refusals.specs.Answers.{settled}
use Rattle.receiver.specs.Frames.{frame_of, frame_times, frame_delays}
use Rattle.receiver.proofs.FrameAsked.{frame_asked, frame_passed, counted_times, counted_delays}
use Rattle.receiver.proofs.ReceiverState.record_frame.Goals as goal

pub count-counted-requires : goal.count-counted-requires
count-counted-requires c =
    let a = c.args in
    let none = frame_passed a.self a.times.now a.delays.now a.counter a.sender_timestamp_ms a.bytes a.now_ms a.sampled c.in_ok-admit_frame.field-0 c.in_ok-admit_frame.ensures in
    (frame_asked a.self a.times.now a.delays.now a.counter a.sender_timestamp_ms a.bytes a.now_ms a.sampled none).room

pub returns-clause-answer : goal.returns-clause-answer
unfolding frame_of settled
returns-clause-answer c =
    let a = c.args in
    let none = frame_passed a.self a.times.now a.delays.now a.counter a.sender_timestamp_ms a.bytes a.now_ms a.sampled c.in_ok-admit_frame.field-0 c.in_ok-admit_frame.ensures in
    rw (c.sample.ensures.answer, c.count-counted.ensures, none)

pub returns-clause-times : goal.returns-clause-times
unfolding frame_times
returns-clause-times c =
    let a = c.args in
    let none = frame_passed a.self a.times.now a.delays.now a.counter a.sender_timestamp_ms a.bytes a.now_ms a.sampled c.in_ok-admit_frame.field-0 c.in_ok-admit_frame.ensures in
    rw (c.sample.ensures.times, c.count-counted.ensures, none) (counted_times a.self a.counter a.bytes a.ce_flag a.sender_timestamp_ms a.now_ms a.sampled a.times.now)

pub returns-clause-delays : goal.returns-clause-delays
unfolding frame_delays
returns-clause-delays c =
    let a = c.args in
    let none = frame_passed a.self a.times.now a.delays.now a.counter a.sender_timestamp_ms a.bytes a.now_ms a.sampled c.in_ok-admit_frame.field-0 c.in_ok-admit_frame.ensures in
    rw (c.sample.ensures.delays, c.count-counted.ensures, none) (counted_delays a.self a.counter a.bytes a.ce_flag a.sender_timestamp_ms a.now_ms a.sampled a.delays.now)

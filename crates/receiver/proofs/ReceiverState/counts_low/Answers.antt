-- The joined test holds only where each of its parts does.
use Rattle.receiver.proofs.WellWithin.{counts_low}
use Rattle.receiver.proofs.ReceiverState.counts_low.Goals as goal

pub returns : goal.returns
returns c h = counts_low c.args.self c.args.bytes (rw (c.frame_size_ok.ensures, c.from-most.ensures) at h)

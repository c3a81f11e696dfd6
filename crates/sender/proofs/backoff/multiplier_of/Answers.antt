use Rattle.sender.proofs.FloatRoute.{multiplier_exact}
use Rattle.sender.proofs.backoff.multiplier_of.Goals as goal

pub returns : goal.returns
returns c = rw (c.nearest_u64_to_f64.ensures, c.backoff_of.ensures) (multiplier_exact c.args.failures)

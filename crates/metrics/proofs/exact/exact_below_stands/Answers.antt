use Rattle.metrics.proofs.Ties.{below}
use Rattle.metrics.proofs.exact.exact_below_stands.Goals as goal

pub returns : goal.returns
returns g c = below c.exact_stands.ensures g.met.T.Exact.laws

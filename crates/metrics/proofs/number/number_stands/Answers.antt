use Rattle.metrics.specs.Counting.{counts}
use Rattle.metrics.proofs.number.number_stands.Goals as goal

pub returns : goal.returns
returns c = counts

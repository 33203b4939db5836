use Rattle.metrics.specs.Widening.{reaches}
use Rattle.metrics.proofs.extremes.extremes_stand.Goals as goal

pub returns : goal.returns
returns c = reaches

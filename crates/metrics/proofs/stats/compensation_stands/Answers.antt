use Rattle.metrics.proofs.Carrying.{carries}
use Rattle.metrics.proofs.stats.compensation_stands.Goals as goal

pub returns : goal.returns
returns c = carries

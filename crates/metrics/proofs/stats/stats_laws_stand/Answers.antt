use Rattle.metrics.proofs.Steps.{stats_laws}
use Rattle.metrics.proofs.stats.stats_laws_stand.Goals as goal

pub returns : goal.returns
returns c = stats_laws

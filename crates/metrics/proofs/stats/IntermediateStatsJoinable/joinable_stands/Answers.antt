use Rattle.metrics.specs.Sums.{stats_worth}
use Rattle.metrics.proofs.Ties.{alike}
use Rattle.metrics.proofs.stats.IntermediateStatsJoinable.joinable_stands.Goals as goal

pub returns : goal.returns
returns c = alike stats_worth

use Rattle.metrics.proofs.Ties.{alike}
use Rattle.metrics.proofs.extremes.ExtremesJoinable.joinable_stands.Goals as goal

pub returns : goal.returns
returns c = alike (λ e. e.ends)

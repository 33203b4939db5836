use Rattle.metrics.specs.Numbers.{number_worth}
use Rattle.metrics.proofs.Ties.{alike}
use Rattle.metrics.proofs.number.NumberJoinable.joinable_stands.Goals as goal

pub returns : goal.returns
returns c = alike number_worth

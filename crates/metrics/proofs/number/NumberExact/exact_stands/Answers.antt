use Rattle.metrics.specs.Numbers.{capped, one_more, added, number_worth}
use Rattle.metrics.proofs.Ties.{rules_alike}
use Rattle.metrics.proofs.number.NumberExact.exact_stands.Goals as goal

pub returns : goal.returns
returns c = rules_alike number_worth (capped 0) (λ _ _. one_more) added

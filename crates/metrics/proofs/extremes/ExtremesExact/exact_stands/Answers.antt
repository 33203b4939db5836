use Rattle.std.proofs.Common.{None}
use Rattle.metrics.specs.Ends.{widened, reaching}
use Rattle.metrics.proofs.Ties.{rules_alike}
use Rattle.metrics.proofs.extremes.ExtremesExact.exact_stands.Goals as goal

pub returns : goal.returns
returns c = rules_alike (λ e. e.ends) None reaching widened

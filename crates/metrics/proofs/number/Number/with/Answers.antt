use Rattle.std.proofs.Common.{arith}
use Rattle.metrics.specs.Counting.{counted_is}
use Rattle.metrics.proofs.number.Number.with.Goals as goal

pub returns : goal.returns
returns c = counted_is _ _ (omega arith)

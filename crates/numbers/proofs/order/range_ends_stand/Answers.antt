use Rattle.numbers.proofs.Columns.{exact_ends}
use Rattle.numbers.proofs.order.range_ends_stand.Goals as goal

pub returns : goal.returns
returns c = exact_ends

use Rattle.numbers.proofs.Columns.{undone}
use Rattle.numbers.proofs.order.float_mapping_stands.Goals as goal

pub returns : goal.returns
returns c = undone

use Rattle.numbers.proofs.Orders.{ordered}
use Rattle.numbers.proofs.order.column_order_stands.Goals as goal

pub returns : goal.returns
returns c = ordered

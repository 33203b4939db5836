use Rattle.records.proofs.Orders.{path_order}
use Rattle.records.proofs.order.path_order_stands.Goals as goal

pub returns : goal.returns
returns c = path_order

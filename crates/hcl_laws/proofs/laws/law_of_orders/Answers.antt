use Rattle.hcl_laws.proofs.Orders.{order_there}
use Rattle.hcl_laws.proofs.laws.law_of_orders.Goals as goal

pub returns : goal.returns
returns c = order_there

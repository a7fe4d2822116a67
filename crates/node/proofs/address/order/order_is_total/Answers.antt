use Rattle.node.specs.Ranks.{ascending}
use Rattle.node.proofs.address.order.order_is_total.Goals as goal

pub returns : goal.returns
returns c = ascending

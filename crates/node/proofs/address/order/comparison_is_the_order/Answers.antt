use Rattle.node.specs.Ranks.{address_ranks}
use Rattle.node.proofs.address.order.comparison_is_the_order.Goals as goal

pub returns-clause-order : goal.returns-clause-order
returns-clause-order c = address_ranks

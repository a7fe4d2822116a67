use Rattle.std.proofs.Common.{rules}
use Rattle.node.proofs.Compared.{decided}
use Rattle.node.proofs.address.order.NodeAddressPartialEq.eq.Goals as goal

pub returns-then-eq-clause-same : goal.returns-then-eq-clause-same
returns-then-eq-clause-same c = decided c.args.self.now c.args.other.now _ (search rules)

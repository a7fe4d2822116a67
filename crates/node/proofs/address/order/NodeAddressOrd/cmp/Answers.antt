use Rattle.std.proofs.Common.{◌≡◌, rules}
use Rattle.node.specs.Ranks.{address_rank}
use Rattle.node.proofs.Compared.{ranked}
use Rattle.node.proofs.address.order.NodeAddressOrd.cmp.Goals as goal

pub returns-clause-order : goal.returns-clause-order
returns-clause-order c =
    let told : c.then.result ≡ address_rank c.args.self.now c.args.other.now = search rules in
    ranked c.args.self.now c.args.other.now c.then.result told

use Rattle.std.proofs.Common.{refl}
use Rattle.node.proofs.Compared.{decided}
use Rattle.node.proofs.address.order.equality_is_sameness.Goals as goal

pub returns-clause-same : goal.returns-clause-same
returns-clause-same c = λ a b. decided a b _ refl

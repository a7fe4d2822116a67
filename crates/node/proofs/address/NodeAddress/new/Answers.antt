use Rattle.std.proofs.Common.{sym, refl}
use Rattle.node.proofs.Made.{some_address}
use Rattle.node.proofs.address.NodeAddress.new.Goals as goal

pub returns-clause-made : goal.returns-clause-made
returns-clause-made c = some_address c.args.host.now c.args.port _ (sym c.if-not-is_host.ensures) c.in_ok-host.ensures.value refl

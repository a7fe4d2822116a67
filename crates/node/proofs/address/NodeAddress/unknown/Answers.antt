use Rattle.std.proofs.Common.{codes, refl, rules, ◌≡◌}
use Rattle.node.specs.ByteKeys.{bytes_of}
use Rattle.node.proofs.Made.{some_address}
use Rattle.node.proofs.address.NodeAddress.unknown.Goals as goal

pub returns : goal.returns
returns c =
    let host : bytes_of c.unwrap.result ≡ codes "?" = search rules in
    some_address (codes "?") 0 _ refl host refl

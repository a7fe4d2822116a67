-- An address is its host and its port, and nothing more.
use Rattle.std.specs.Prelude.{◌≡◌, true}
use Rattle.std.proofs.Math.Bool.{Bool-set}
use mathlib.Core.HLevel.{is_prop→PathP}
use Rattle.std.proofs.Common.{ap}
use Rattle.node.specs.Address.{host_of, name_of}
use Rattle.node.specs.ByteKeys.{bytes_of, same_key}
use Rattle.node.specs.Host.{host_form}
use Rattle.node.specs.declared.address.NodeAddress.{NodeAddress}

pub host_formed : (a : NodeAddress) → host_form (host_of a) ≡ true
host_formed a = a.formed

pub same_address : (a b : NodeAddress) → host_of a ≡ host_of b → a.port ≡ b.port → a ≡ b
same_address a b same port =
    let host : a.host ≡ b.host = same_key a.host b.host same in
    λ i. record {
      host = host i;
      port = port i;
      formed = is_prop→PathP (λ k. host_form (bytes_of (host k)) ≡ true) (λ k. Bool-set _ _) a.formed b.formed i;
    }

pub same_name : (a b : NodeAddress) → name_of a ≡ name_of b → a ≡ b
same_name a b e = same_address a b (ap (λ n. n.host) e) (ap (λ n. n.port) e)

-- The order of addresses: by the bytes of the host, then by the port.
use Rattle.std.specs.Prelude.{◌≡◌, ◌<◌, ◌⊎◌}
use Rattle.node.specs.Address.{host_of}
use Rattle.node.specs.Bytes.{Before}
use Rattle.node.specs.declared.address.NodeAddress.{NodeAddress}

abbrev pub Below : NodeAddress → NodeAddress → Type 0
Below a b = Before (host_of a) (host_of b) ⊎ ((host_of a ≡ host_of b) × (a.port < b.port))

-- of any two exactly one is so: the first is below, they are the same, the second is below
pub record StrictTotal {K : Type 0} (L : K → K → Type 0) : Type 0 where
  pub irreflexive : (x : K) → L x x → ⊥
  pub asymmetric : (x y : K) → L x y → L y x → ⊥
  pub transitive : (x y z : K) → L x y → L y z → L x z
  pub trichotomy : (x y : K) → L x y ⊎ ((x ≡ y) ⊎ L y x)

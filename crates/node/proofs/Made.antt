-- The address that was made is the one that the definition has.
use Rattle.std.proofs.Common.{◌≡◌, ℕ, Bool, true, false, List, Some, None, sym, refl, ap, ◌∙◌, true≢false}
use Rattle.node.specs.Address.{host_of}
use Rattle.node.specs.ByteKeys.{formed_bytes}
use Rattle.node.specs.Host.{host_form}
use Rattle.node.specs.Made.{host_within, formed_address, address_if, address}
use Rattle.node.specs.Same.{same_address}
use Rattle.node.specs.declared.address.NodeAddress.{NodeAddress}

module _ (host : List ℕ) (port : ℕ) where
  some_if : (a : NodeAddress) (b : Bool) (e : host_form host ≡ b) → host_form host ≡ true → host_of a ≡ host → a.port ≡ port → Some a ≡ address_if host port b e
  some_if a true e form same-host same-port =
      ap Some (same_address a (formed_address host port e) (same-host ∙ sym (formed_bytes host (host_within host e))) same-port)
  some_if a false e form same-host same-port = absurd (true≢false (sym form ∙ e))

  none_if : (b : Bool) (e : host_form host ≡ b) → host_form host ≡ false → None ≡ address_if host port b e
  none_if true e form = absurd (true≢false (sym e ∙ form))
  none_if false e form = refl

  pub some_address : (a : NodeAddress) → host_form host ≡ true → host_of a ≡ host → a.port ≡ port → Some a ≡ address host port
  some_address a = some_if a (host_form host) refl

  pub no_address : host_form host ≡ false → None ≡ address host port
  no_address = none_if (host_form host) refl

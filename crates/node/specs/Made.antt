-- The address that has a host and a port.
use Rattle.std.specs.Prelude.{◌≡◌, ℕ, ◌≤◌, Bool, true, false, List, length, Some, None, Option, refl}
use Rattle.std.proofs.Common.{ap, ◌∙◌}
use Rattle.std.proofs.lemmas.Bool.{and_parts, leb-true}
use Rattle.node.specs.ByteKeys.{formed_key, formed_bytes}
use Rattle.node.specs.Host.{host_form}
use Rattle.node.specs.declared.address.NodeAddress.{NodeAddress}

pub host_within : (bs : List ℕ) → host_form bs ≡ true → length bs ≤ 64
host_within bs h = leb-true (length bs) 64 (and_parts _ _ (and_parts _ _ h).0).1

abbrev pub formed_address : (host : List ℕ) → ℕ → host_form host ≡ true → NodeAddress
formed_address host port form = record {
  host = formed_key host (host_within host form);
  port = port;
  formed = ap host_form (formed_bytes host (host_within host form)) ∙ form;
}

abbrev pub address_if : (host : List ℕ) → ℕ → (b : Bool) → host_form host ≡ b → Option NodeAddress
address_if host port true form = Some (formed_address host port form)
address_if host port false form = None

-- there is one exactly if the host has the form
abbrev pub address : List ℕ → ℕ → Option NodeAddress
address host port = address_if host port (host_form host) refl

-- A host with zeros behind it, in 64 bytes: what the parts of an address come to.
use Rattle.std.specs.Prelude.{◌≡◌, ℕ, ◌-◌, Bool, true, ◌&&◌, List, ◌++◌, length, take, drop, replicate, ◌==◌, nat_le}
use Rattle.std.proofs.Common.{ap, ◌∙◌}
use Rattle.std.proofs.lemmas.Bool.{and_parts, and_from}
use Rattle.node.specs.Host.{host_form}
use Rattle.node.specs.Made.{host_within}
use Rattle.node.specs.Padded.{all_zero, padded_parts, padded_front, is_padded}
use Rattle.node.specs.declared.address.NodeAddress.{NodeAddress}

-- a host of n bytes, and zeros behind it up to 64 bytes
abbrev pub padded_host : List ℕ → ℕ → Bool
padded_host bytes n = length bytes == 64 && nat_le n 64 && host_form (take n bytes) && all_zero (drop n bytes)

pub record Formed (bytes : List ℕ) (n : ℕ) : Type 0 where
  pub form : host_form (take n bytes) ≡ true
  pub padded : bytes ≡ take n bytes ++ replicate (64 - n) 0
  pub long : n ≡ length (take n bytes)

pub formed_parts : (bytes : List ℕ) (n : ℕ) → padded_host bytes n ≡ true → Formed bytes n
formed_parts bytes n h =
    let p = and_parts _ _ h in
    let q = and_parts _ _ p.0 in
    let parts = padded_parts bytes n (and_from _ _ q.0 p.1) in
    record { form = q.1; padded = parts.is; long = parts.long }

-- a host with zeros behind it
pub padded_formed : (bytes all : List ℕ) → host_form bytes ≡ true → all ≡ bytes ++ replicate (64 - length bytes) 0 → padded_host all (length bytes) ≡ true
padded_formed bytes all form is =
    let p = and_parts _ _ (is_padded bytes all is (host_within bytes form)) in
    and_from _ _ (and_from _ _ p.0 (ap host_form (padded_front bytes all is) ∙ form)) p.1

-- every address has one
pub address_padded : (a : NodeAddress) → padded_host a.host.bytes a.host.len ≡ true
address_padded a =
    let p = and_parts _ _ a.host.formed in
    and_from _ _ (and_from _ _ p.0 a.formed) p.1

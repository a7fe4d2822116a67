-- What the comparisons of two addresses answer.
use Rattle.std.proofs.Common.{◌≡◌, Bool, Decides, Ordering, sym, ap, subst, refl}
use Rattle.std.proofs.lemmas.Bool.{and_parts, and_from, eqb-true, eq-eqb}
use Rattle.std.proofs.lemmas.Bool.Decides.{Decides-at, Decides-eqb}
use Rattle.std.proofs.lemmas.Slice.Eq.{slice_eq-Decides}
use Rattle.std.specs.Ordering.{MatchOrdering}
use Rattle.node.specs.Address.{host_of}
use Rattle.node.specs.Order.{Below}
use Rattle.node.specs.Ranks.{address_same, address_rank, address_ranks}
use Rattle.node.specs.Same.{same_address}
use Rattle.node.specs.declared.address.NodeAddress.{NodeAddress}

module _ (a b : NodeAddress) where
  pub decided : (r : Bool) → r ≡ address_same a b → Decides r (a ≡ b)
  decided r e =
      let hosts = slice_eq-Decides Decides-eqb (host_of a) (host_of b) _ refl in
      Decides-at r (address_same a b) e (
        λ t. let p = and_parts _ _ t in same_address a b (hosts.0 p.0) (eqb-true a.port b.port p.1),
        λ d. and_from _ _ (hosts.1 (ap host_of d)) (eq-eqb a.port b.port (ap (λ c. c.port) d)),
      )

  pub ranked : (r : Ordering) → r ≡ address_rank a b → MatchOrdering r (Below a b) (a ≡ b) (Below b a)
  ranked r e = subst (λ o. MatchOrdering o (Below a b) (a ≡ b) (Below b a)) (sym e) (address_ranks a b)

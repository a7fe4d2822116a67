-- What one answer of a total order tells of another.
use Rattle.std.proofs.Common.{◌≡◌, true, false, Ordering, Less, Equal, Greater, refl, sym, ap, ◌∙◌}
use mathlib.Core.Bool.{false≢true}
use Rattle.std.specs.Ordering.{is_eq, is_lt, ordering_reverse}
use Rattle.std.specs.Cmp.{IsTotalOrder, alike_right}

pub is_less : (o : Ordering) → is_lt o ≡ true → o ≡ Less
is_less Less e = refl
is_less Equal e = absurd (false≢true e)
is_less Greater e = absurd (false≢true e)

pub is_other : (o : Ordering) → (o ≡ Equal → ⊥) → is_eq o ≡ false
is_other Less n = refl
is_other Equal n = absurd (n refl)
is_other Greater n = refl

module _ {K : Type 0} {rank : K → K → Ordering} (total : IsTotalOrder rank) (x y : K) where
  pub greater : rank x y ≡ Less → rank y x ≡ Greater
  greater e = total.antisymm y x ∙ ap ordering_reverse e

  pub less : rank x y ≡ Greater → rank y x ≡ Less
  less e = total.antisymm y x ∙ ap ordering_reverse e

  pub less_than_equal : (z : K) → rank x y ≡ Less → rank y z ≡ Equal → rank x z ≡ Less
  less_than_equal z p q = sym (alike_right total y z x q) ∙ p

-- A total order, by what a comparison answers: equal keys are one, the other way round the answer turns, and below is transitive.
use Rattle.std.specs.Prelude.{◌≡◌}
use Rattle.std.specs.declared.cmp.Ordering.TheVariants.{Less, Equal}
use Rattle.std.specs.declared.cmp.Ordering.{Ordering}
use Rattle.std.specs.Ordering.{ordering_reverse}

pub record Total {K : Type 0} (rank : K → K → Ordering) : Type 0 where
  pub same : (x y : K) → rank x y ≡ Equal → x ≡ y
  pub itself : (x : K) → rank x x ≡ Equal
  pub turned : (x y : K) → rank x y ≡ ordering_reverse (rank y x)
  pub chained : (x y z : K) → rank x y ≡ Less → rank y z ≡ Less → rank x z ≡ Less

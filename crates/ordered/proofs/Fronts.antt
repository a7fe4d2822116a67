-- What `find` tells of the first n entries of a slice, which is the least of n and the slice's length.
use Rattle.std.proofs.Common.{◌≡◌, ℕ, min, true, List, length, take, Some, Ok, Err, Result, Ordering, subst, arith}
use Rattle.std.specs.Result.{result_ok}
use Rattle.ordered.specs.Edits.{Table}
use Rattle.ordered.specs.Table.{ascending, Found}

module _ {E K : Type 0} (key : E → K) (rank : K → K → Ordering) (old : List E) (n m : ℕ) (table : Table key rank old n) (least : m ≡ min n (length old)) where
  pub all_of_it : m ≡ n
  all_of_it = omega (arith, table.0)

  pub found_in_front : (k q : K) (r : Result ℕ ℕ) → k ≡ q → (ascending key rank (take m old) ≡ true → Found key rank (take m old) k r) → Found key rank (take n old) q r
  found_in_front k q r e found =
      let same : m ≡ n = omega (arith, table.0) in
      subst (λ w. Found key rank (take n old) w r) e (subst (λ j. ascending key rank (take j old) ≡ true → Found key rank (take j old) k r) same found table.1)

pub told : (r : Result ℕ ℕ) (i : ℕ) → Some i ≡ result_ok r → r ≡ Ok i
told (Ok j) i h = cc
told (Err e) i h = cc

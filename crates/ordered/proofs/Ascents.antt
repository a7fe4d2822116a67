-- In a table, the key at a lower place is below the key at a higher one.
use Rattle.std.proofs.Common.{◌≡◌, ℕ, zero, suc, ◌<◌, true, List, [], ◌∷◌, length, get_or, Ordering, Less, Equal, sym, ap, ◌∙◌, arith}
use Rattle.std.proofs.lemmas.Bool.{and_parts, and_from}
use Rattle.std.specs.Ordering.{is_lt}
use Rattle.ordered.specs.Table.{above, ascending}
use Rattle.std.specs.Cmp.{IsTotalOrder}
use Rattle.ordered.proofs.Ranks.{is_less}

module _ {E K : Type 0} (key : E → K) (rank : K → K → Ordering) where
  pub above_at : (x : E) (ys : List E) (i : ℕ) (d : E) → above key rank x ys ≡ true → i < length ys → rank (key x) (key (get_or ys i d)) ≡ Less
  above_at x [] i d h l = absurd (omega arith)
  above_at x (y ∷ ys) zero d h l = is_less _ (and_parts _ (above key rank x ys) h).0
  above_at x (y ∷ ys) (suc i) d h l = above_at x ys i d (and_parts _ (above key rank x ys) h).1 (omega arith)

  pub above_same : IsTotalOrder rank → (x y : E) (zs : List E) → rank (key x) (key y) ≡ Equal → above key rank x zs ≡ true → above key rank y zs ≡ true
  above_same total x y [] e h = h
  above_same total x y (z ∷ zs) e h =
      let p = and_parts _ (above key rank x zs) h in
      and_from _ _ (ap is_lt (sym (total.congr _ _ (key z) e)) ∙ p.0) (above_same total x y zs e p.1)

  pub above_chain : IsTotalOrder rank → (x y : E) (zs : List E) → rank (key x) (key y) ≡ Less → above key rank y zs ≡ true → above key rank x zs ≡ true
  above_chain total x y [] l h = h
  above_chain total x y (z ∷ zs) l h =
      let p = and_parts _ (above key rank y zs) h in
      and_from _ _ (ap is_lt (total.trans _ _ _ l (is_less _ p.0))) (above_chain total x y zs l p.1)

  pub ascends : (xs : List E) (i j : ℕ) (d : E) → ascending key rank xs ≡ true → i < j → j < length xs → rank (key (get_or xs i d)) (key (get_or xs j d)) ≡ Less
  ascends [] i j d h l m = absurd (omega arith)
  ascends (x ∷ xs) i zero d h l m = absurd (omega arith)
  ascends (x ∷ xs) zero (suc j) d h l m = above_at x xs j d (and_parts _ (ascending key rank xs) h).0 (omega arith)
  ascends (x ∷ xs) (suc i) (suc j) d h l m = ascends xs i j d (and_parts _ (ascending key rank xs) h).1 (omega arith) (omega arith)

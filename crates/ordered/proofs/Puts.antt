-- What `put` makes of a table.
use Rattle.std.proofs.Common.{◌≡◌, ℕ, zero, suc, ◌<◌, ◌≤◌, true, cond, List, [], ◌∷◌, ◌++◌, length, get_or, take, drop, set, Some, Ordering, Less, Equal, Greater, sym, refl, ap, ◌∙◌, arith}
use Rattle.std.proofs.lemmas.Bool.{and_parts, and_from}
use Rattle.std.specs.Ordering.{is_eq, is_lt}
use Rattle.ordered.specs.Edits.{Changed}
use Rattle.ordered.specs.Table.{by, above, ascending, lookup, put, Rank}
use Rattle.std.specs.Cmp.{IsTotalOrder, tied_itself}
use Rattle.ordered.proofs.Ascents.{above_chain, above_same}
use Rattle.ordered.proofs.Lookups.{lookup_passes, lookup_other}
use Rattle.ordered.proofs.Ranks.{less}

module _ {E K : Type 0} (key : E → K) (rank : K → K → Ordering) (e : E) where
  put_by : (x : E) (xs : List E) (o : Ordering) → rank (key x) (key e) ≡ o → put key rank e (x ∷ xs) ≡ by o (x ∷ put key rank e xs) (e ∷ xs) (e ∷ x ∷ xs)
  put_by x xs o r = ap (λ q. by q (x ∷ put key rank e xs) (e ∷ xs) (e ∷ x ∷ xs)) r

  pub put_there : (xs : List E) (i : ℕ) → i < length xs → Rank key rank Less xs (key e) 0 i → ((d : E) → rank (key (get_or xs i d)) (key e) ≡ Equal) → put key rank e xs ≡ set xs i e
  put_there [] i l before there = absurd (omega arith)
  put_there (x ∷ xs) zero l before there = put_by x xs Equal (there x)
  put_there (x ∷ xs) (suc i) l before there = put_by x xs Less (before 0 x (omega arith) (omega arith)) ∙ ap (λ ys. x ∷ ys) (put_there xs i (omega arith) (λ j d m n. before (suc j) d (omega arith) (omega arith)) there)

  pub put_absent : (xs : List E) (i : ℕ) → i ≤ length xs → Rank key rank Less xs (key e) 0 i → Rank key rank Greater xs (key e) i (length xs) → put key rank e xs ≡ take i xs ++ (e ∷ drop i xs)
  put_absent [] zero l before behind = refl
  put_absent [] (suc i) l before behind = refl
  put_absent (x ∷ xs) zero l before behind = put_by x xs Greater (behind 0 x (omega arith) (omega arith))
  put_absent (x ∷ xs) (suc i) l before behind = put_by x xs Less (before 0 x (omega arith) (omega arith)) ∙ ap (λ ys. x ∷ ys) (put_absent xs i (omega arith) (λ j d m n. before (suc j) d (omega arith) (omega arith)) (λ j d m n. behind (suc j) d (omega arith) (omega arith)))

  above_put : (x : E) (ys : List E) → rank (key x) (key e) ≡ Less → above key rank x ys ≡ true → above key rank x (put key rank e ys) ≡ true
  above_put x [] l h = and_from _ true (ap is_lt l) refl
  above_put x (y ∷ ys) l h = go (rank (key y) (key e)) (above_put x ys l (and_parts _ (above key rank x ys) h).1)
    where
      go : (o : Ordering) → above key rank x (put key rank e ys) ≡ true → above key rank x (by o (y ∷ put key rank e ys) (e ∷ ys) (e ∷ y ∷ ys)) ≡ true
      go Less ih = and_from _ _ (and_parts _ (above key rank x ys) h).0 ih
      go Equal ih = and_from _ _ (ap is_lt l) (and_parts _ (above key rank x ys) h).1
      go Greater ih = and_from _ _ (ap is_lt l) h

  module _ (total : IsTotalOrder rank) where
    ascending_put : (xs : List E) → ascending key rank xs ≡ true → ascending key rank (put key rank e xs) ≡ true
    ascending_put [] h = refl
    ascending_put (x ∷ xs) h = go (rank (key x) (key e)) refl (ascending_put xs (and_parts _ (ascending key rank xs) h).1)
      where
        go : (o : Ordering) → rank (key x) (key e) ≡ o → ascending key rank (put key rank e xs) ≡ true → ascending key rank (by o (x ∷ put key rank e xs) (e ∷ xs) (e ∷ x ∷ xs)) ≡ true
        go Less q ih = and_from _ _ (above_put x xs q (and_parts _ (ascending key rank xs) h).0) ih
        go Equal q ih = and_from _ _ (above_same key rank total x e xs q (and_parts _ (ascending key rank xs) h).0) (and_parts _ (ascending key rank xs) h).1
        go Greater q ih = and_from _ _ (and_from _ _ (ap is_lt (less total _ _ q)) (above_chain key rank total e x xs (less total _ _ q) (and_parts _ (ascending key rank xs) h).0)) h

    lookup_first : (xs : List E) → lookup key rank (key e) (e ∷ xs) ≡ Some e
    lookup_first xs = ap (λ o. cond (is_eq o) (Some e) (lookup key rank (key e) xs)) (tied_itself total (key e))

    lookup_put : (xs : List E) → lookup key rank (key e) (put key rank e xs) ≡ Some e
    lookup_put [] = lookup_first []
    lookup_put (x ∷ xs) = go (rank (key x) (key e)) refl (lookup_put xs)
      where
        go : (o : Ordering) → rank (key x) (key e) ≡ o → lookup key rank (key e) (put key rank e xs) ≡ Some e → lookup key rank (key e) (by o (x ∷ put key rank e xs) (e ∷ xs) (e ∷ x ∷ xs)) ≡ Some e
        go Less q ih = lookup_passes key rank (key e) x (put key rank e xs) Less q refl ∙ ih
        go Equal q ih = lookup_first xs
        go Greater q ih = lookup_first (x ∷ xs)

    lookup_put_other : (k : K) → (rank (key e) k ≡ Equal → ⊥) → (xs : List E) → lookup key rank k (put key rank e xs) ≡ lookup key rank k xs
    lookup_put_other k n [] = lookup_other key rank k e [] n
    lookup_put_other k n (x ∷ xs) = go (rank (key x) (key e)) refl (lookup_put_other k n xs)
      where
        go : (o : Ordering) → rank (key x) (key e) ≡ o → lookup key rank k (put key rank e xs) ≡ lookup key rank k xs → lookup key rank k (by o (x ∷ put key rank e xs) (e ∷ xs) (e ∷ x ∷ xs)) ≡ lookup key rank k (x ∷ xs)
        go Less q ih = ap (cond (is_eq (rank (key x) k)) (Some x)) ih
        go Equal q ih = lookup_other key rank k e xs n ∙ sym (lookup_other key rank k x xs (λ i. n (sym (total.congr _ _ k q) ∙ i)))
        go Greater q ih = lookup_other key rank k e (x ∷ xs) n

    pub changed_put : (xs : List E) → ascending key rank xs ≡ true → Changed key rank (key e) (Some e) xs (put key rank e xs)
    changed_put xs h = record { strict = ascending_put xs h; there = lookup_put xs; others = λ k n. lookup_put_other k n xs }

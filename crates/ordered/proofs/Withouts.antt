-- What `without` leaves of a table.
use Rattle.std.proofs.Common.{◌≡◌, ℕ, zero, suc, ◌+◌, ◌<◌, Bool, true, false, cond, List, [], ◌∷◌, ◌++◌, length, get_or, take, drop, Some, None, Ordering, Less, Equal, Greater, sym, refl, ap, ◌∙◌, arith}
use Rattle.std.proofs.lemmas.Bool.{and_parts, and_from}
use Rattle.std.specs.Ordering.{is_eq}
use Rattle.ordered.specs.Edits.{Changed}
use Rattle.ordered.specs.Table.{above, ascending, lookup, without, Rank}
use Rattle.std.specs.Cmp.{IsTotalOrder}
use Rattle.ordered.proofs.Ascents.{above_at}
use Rattle.ordered.proofs.Lookups.{lookup_passes, lookup_other, lookup_absent}
use Rattle.ordered.proofs.Ranks.{greater}

module _ {E K : Type 0} (key : E → K) (rank : K → K → Ordering) (k : K) where
  without_by : (x : E) (xs : List E) (o : Ordering) → rank (key x) k ≡ o → without key rank k (x ∷ xs) ≡ cond (is_eq o) xs (x ∷ without key rank k xs)
  without_by x xs o r = ap (λ q. cond (is_eq q) xs (x ∷ without key rank k xs)) r

  pub without_there : (xs : List E) (i : ℕ) → i < length xs → Rank key rank Less xs k 0 i → ((d : E) → rank (key (get_or xs i d)) k ≡ Equal) → without key rank k xs ≡ take i xs ++ drop (suc i) xs
  without_there [] i l before there = absurd (omega arith)
  without_there (x ∷ xs) zero l before there = without_by x xs Equal (there x)
  without_there (x ∷ xs) (suc i) l before there = without_by x xs Less (before 0 x (omega arith) (omega arith)) ∙ ap (λ ys. x ∷ ys) (without_there xs i (omega arith) (λ j d m n. before (suc j) d (omega arith) (omega arith)) there)

  pub length-without : (xs : List E) (e : E) → lookup key rank k xs ≡ Some e → length (without key rank k xs) + 1 ≡ length xs
  length-without [] e h = cc
  length-without (x ∷ xs) e h = go (is_eq (rank (key x) k)) (length-without xs e) h
    where
      go : (b : Bool) → (lookup key rank k xs ≡ Some e → length (without key rank k xs) + 1 ≡ length xs) → cond b (Some x) (lookup key rank k xs) ≡ Some e → length (cond b xs (x ∷ without key rank k xs)) + 1 ≡ length (x ∷ xs)
      go true ih h = omega arith
      go false ih h = omega (arith, ih h)

  above_without : (x : E) (ys : List E) → above key rank x ys ≡ true → above key rank x (without key rank k ys) ≡ true
  above_without x [] h = h
  above_without x (y ∷ ys) h = go (is_eq (rank (key y) k)) (above_without x ys (and_parts _ (above key rank x ys) h).1)
    where
      go : (b : Bool) → above key rank x (without key rank k ys) ≡ true → above key rank x (cond b ys (y ∷ without key rank k ys)) ≡ true
      go true ih = (and_parts _ (above key rank x ys) h).1
      go false ih = and_from _ _ (and_parts _ (above key rank x ys) h).0 ih

  ascending_without : (xs : List E) → ascending key rank xs ≡ true → ascending key rank (without key rank k xs) ≡ true
  ascending_without [] h = h
  ascending_without (x ∷ xs) h = go (is_eq (rank (key x) k)) (ascending_without xs (and_parts _ (ascending key rank xs) h).1)
    where
      go : (b : Bool) → ascending key rank (without key rank k xs) ≡ true → ascending key rank (cond b xs (x ∷ without key rank k xs)) ≡ true
      go true ih = (and_parts _ (ascending key rank xs) h).1
      go false ih = and_from _ _ (above_without x xs (and_parts _ (ascending key rank xs) h).0) ih

  module _ (total : IsTotalOrder rank) where
    lookup_behind : (x : E) (xs : List E) → rank (key x) k ≡ Equal → above key rank x xs ≡ true → lookup key rank k xs ≡ None
    lookup_behind x xs q h = lookup_absent key rank k xs 0 (λ j d m n. absurd (omega arith)) (λ j d m n. greater total k _ (sym (total.congr _ _ (key (get_or xs j d)) q) ∙ above_at key rank x xs j d h n))

    lookup_without : (xs : List E) → ascending key rank xs ≡ true → lookup key rank k (without key rank k xs) ≡ None
    lookup_without [] h = refl
    lookup_without (x ∷ xs) h = go (rank (key x) k) refl (lookup_without xs (and_parts _ (ascending key rank xs) h).1)
      where
        go : (o : Ordering) → rank (key x) k ≡ o → lookup key rank k (without key rank k xs) ≡ None → lookup key rank k (cond (is_eq o) xs (x ∷ without key rank k xs)) ≡ None
        go Less q ih = lookup_passes key rank k x (without key rank k xs) Less q refl ∙ ih
        go Equal q ih = lookup_behind x xs q (and_parts _ (ascending key rank xs) h).0
        go Greater q ih = lookup_passes key rank k x (without key rank k xs) Greater q refl ∙ ih

    lookup_without_other : (w : K) → (rank k w ≡ Equal → ⊥) → (xs : List E) → lookup key rank w (without key rank k xs) ≡ lookup key rank w xs
    lookup_without_other w n [] = refl
    lookup_without_other w n (x ∷ xs) = go (rank (key x) k) refl (ap (cond (is_eq (rank (key x) w)) (Some x)) (lookup_without_other w n xs))
      where
        go : (o : Ordering) → rank (key x) k ≡ o → lookup key rank w (x ∷ without key rank k xs) ≡ lookup key rank w (x ∷ xs) → lookup key rank w (cond (is_eq o) xs (x ∷ without key rank k xs)) ≡ lookup key rank w (x ∷ xs)
        go Less q ih = ih
        go Equal q ih = sym (lookup_other key rank w x xs (λ i. n (sym (total.congr _ _ w q) ∙ i)))
        go Greater q ih = ih

    pub changed_without : (xs : List E) → ascending key rank xs ≡ true → Changed key rank k None xs (without key rank k xs)
    changed_without xs h = record { strict = ascending_without xs h; there = lookup_without xs h; others = λ w n. lookup_without_other w n xs }

-- Where a lookup of a key ends.
use Rattle.std.proofs.Common.{◌≡◌, ℕ, zero, suc, ◌<◌, false, cond, List, [], ◌∷◌, length, get_or, Some, None, Ordering, Less, Equal, Greater, refl, ap, ◌∙◌, arith}
use Rattle.std.specs.Ordering.{is_eq}
use Rattle.ordered.specs.Table.{lookup, Rank}
use Rattle.ordered.proofs.Ranks.{is_other}

module _ {E K : Type 0} (key : E → K) (rank : K → K → Ordering) (k : K) where
  pub lookup_passes : (x : E) (xs : List E) (o : Ordering) → rank (key x) k ≡ o → is_eq o ≡ false → lookup key rank k (x ∷ xs) ≡ lookup key rank k xs
  lookup_passes x xs o e f = ap (λ b. cond b (Some x) (lookup key rank k xs)) (ap is_eq e ∙ f)

  pub lookup_other : (x : E) (xs : List E) → (rank (key x) k ≡ Equal → ⊥) → lookup key rank k (x ∷ xs) ≡ lookup key rank k xs
  lookup_other x xs n = lookup_passes x xs (rank (key x) k) refl (is_other (rank (key x) k) n)

  pub lookup_there : (xs : List E) (i : ℕ) → i < length xs → Rank key rank Less xs k 0 i → ((d : E) → rank (key (get_or xs i d)) k ≡ Equal) → (d : E) → lookup key rank k xs ≡ Some (get_or xs i d)
  lookup_there [] i l before there d = absurd (omega arith)
  lookup_there (x ∷ xs) zero l before there d = ap (λ o. cond (is_eq o) (Some x) (lookup key rank k xs)) (there d)
  lookup_there (x ∷ xs) (suc i) l before there d = lookup_passes x xs Less (before 0 d (omega arith) (omega arith)) refl ∙ lookup_there xs i (omega arith) (λ j e m n. before (suc j) e (omega arith) (omega arith)) there d

  pub lookup_absent : (xs : List E) (i : ℕ) → Rank key rank Less xs k 0 i → Rank key rank Greater xs k i (length xs) → lookup key rank k xs ≡ None
  lookup_absent [] i before behind = refl
  lookup_absent (x ∷ xs) zero before behind = lookup_passes x xs Greater (behind 0 x (omega arith) (omega arith)) refl ∙ lookup_absent xs zero (λ j e m n. absurd (omega arith)) (λ j e m n. behind (suc j) e (omega arith) (omega arith))
  lookup_absent (x ∷ xs) (suc i) before behind = lookup_passes x xs Less (before 0 x (omega arith) (omega arith)) refl ∙ lookup_absent xs i (λ j e m n. before (suc j) e (omega arith) (omega arith)) (λ j e m n. behind (suc j) e (omega arith) (omega arith))

-- An insertion, seen through a function.
use Rattle.std.proofs.Common.{◌≡◌, ℕ, List, [], ◌∷◌, map, MatchResult, IsErrAnd, Ok, Err, Result, Ordering, Less, Equal, Greater, refl, ap, arith}
use Rattle.ordered.specs.Table.{by, put}

-- the same insertion, seen through f
module _ {E F K : Type 0} (f : E → F) (key : F → K) (rank : K → K → Ordering) (e : E) where
  at_rank : (o : Ordering) (x : E) (xs : List E) → map f (put (λ y. key (f y)) rank e xs) ≡ put key rank (f e) (map f xs) →
      map f (by o (x ∷ put (λ y. key (f y)) rank e xs) (e ∷ xs) (e ∷ x ∷ xs)) ≡ by o (f x ∷ put key rank (f e) (map f xs)) (f e ∷ map f xs) (f e ∷ f x ∷ map f xs)
  at_rank Less x xs h = ap (λ l. f x ∷ l) h
  at_rank Equal x xs h = refl
  at_rank Greater x xs h = refl

  pub map_put : (xs : List E) → map f (put (λ y. key (f y)) rank e xs) ≡ put key rank (f e) (map f xs)
  map_put [] = refl
  map_put (x ∷ xs) = at_rank (rank (key (f x)) (key (f e))) x xs (map_put xs)

-- a table's answer, of which only the refusal is passed on
module _ {A E D : Type 0} (R : Result A E → Type 0) (Q : E → D → Type 0) where
  pub went_in : (r : Result A E) (q : Result A D) (u : A) → q ≡ Ok u → R r → MatchResult r (λ a. q ≡ Ok a) (λ e. IsErrAnd q (Q e)) → (a : A) × R (Ok a)
  went_in (Ok a) q u is h k = (a, h)
  went_in (Err e) (Ok x) u is h k = absurd k
  went_in (Err e) (Err x) u is h k = let z : ◌≡◌ {A = ℕ} 0 1 = cc in absurd (omega arith)

  pub refused : (r : Result A E) (q : Result A D) (d : D) → q ≡ Err d → R r → MatchResult r (λ a. q ≡ Ok a) (λ e. IsErrAnd q (Q e)) → (e : E) × R (Err e)
  refused (Ok a) q d is h k = let z : ◌≡◌ {A = ℕ} 0 1 = cc in absurd (omega arith)
  refused (Err e) q d is h k = (e, h)

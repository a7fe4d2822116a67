-- The order of bytes, and what the library's comparison of them answers.
use Rattle.std.specs.Prelude.{◌≡◌, ℕ, ◌<◌, ◌⊎◌, List, [], ◌∷◌, refl}
use Rattle.std.specs.declared.cmp.Ordering.TheVariants.{Less, Equal, Greater}
use Rattle.std.specs.declared.cmp.Ordering.{Ordering}
use Rattle.std.proofs.Common.{inl, inr, sym, ◌∙◌, arith}
use Rattle.std.specs.Cmp.{ranks}
use Rattle.std.specs.Cmp.Lexicographic.{slice_cmp}
use Rattle.std.specs.Ordering.{MatchOrdering, ordering_then, nat_cmp}

-- the smaller byte where the two first differ, and a text before what it begins
abbrev pub Before : List ℕ → List ℕ → Type 0
Before [] [] = ⊥
Before [] (y ∷ ys) = Unit {0}
Before (x ∷ xs) [] = ⊥
Before (x ∷ xs) (y ∷ ys) = (x < y) ⊎ ((x ≡ y) × Before xs ys)

pub before_irrefl : (xs : List ℕ) → Before xs xs → ⊥
before_irrefl [] h = h
before_irrefl (x ∷ xs) (inl h) = omega arith
before_irrefl (x ∷ xs) (inr h) = before_irrefl xs h.1

pub before_chain : (xs ys zs : List ℕ) → Before xs ys → Before ys zs → Before xs zs
before_chain [] [] zs h k = absurd h
before_chain [] (y ∷ ys) [] h k = k
before_chain [] (y ∷ ys) (z ∷ zs) h k = tt
before_chain (x ∷ xs) [] zs h k = absurd h
before_chain (x ∷ xs) (y ∷ ys) [] h k = k
before_chain (x ∷ xs) (y ∷ ys) (z ∷ zs) (inl h) (inl k) = inl (omega arith)
before_chain (x ∷ xs) (y ∷ ys) (z ∷ zs) (inl h) (inr k) = inl (omega (arith, k.0))
before_chain (x ∷ xs) (y ∷ ys) (z ∷ zs) (inr h) (inl k) = inl (omega (arith, h.0))
before_chain (x ∷ xs) (y ∷ ys) (z ∷ zs) (inr h) (inr k) = inr (h.0 ∙ k.0, before_chain xs ys zs h.1 k.1)

first_ranks : (x y : ℕ) (xs ys : List ℕ) (r s : Ordering) → MatchOrdering r (x < y) (x ≡ y) (y < x) → MatchOrdering s (Before xs ys) (xs ≡ ys) (Before ys xs) → MatchOrdering (ordering_then r s) (Before (x ∷ xs) (y ∷ ys)) (x ∷ xs ≡ y ∷ ys) (Before (y ∷ ys) (x ∷ xs))
first_ranks x y xs ys Less s h k = inl h
first_ranks x y xs ys Equal Less h k = inr (h, k)
first_ranks x y xs ys Equal Equal h k = λ i. h i ∷ k i
first_ranks x y xs ys Equal Greater h k = inr (sym h, k)
first_ranks x y xs ys Greater s h k = inl h

pub lex_ranks : (xs ys : List ℕ) → MatchOrdering (slice_cmp nat_cmp xs ys) (Before xs ys) (xs ≡ ys) (Before ys xs)
lex_ranks [] [] = refl
lex_ranks [] (y ∷ ys) = tt
lex_ranks (x ∷ xs) [] = tt
lex_ranks (x ∷ xs) (y ∷ ys) = first_ranks x y xs ys (nat_cmp x y) (slice_cmp nat_cmp xs ys) (ranks x y) (lex_ranks xs ys)

-- Lines written one behind the other.
use Rattle.std.proofs.Common.{◌≡◌, ℕ, List, [], ◌∷◌, ◌++◌, ap, ◌∙◌, append_assoc}

-- a line more is written: what is left with it is left without it
pub line_written : (old line new left before all : List ℕ) → new ≡ old ++ (line ++ (10 ∷ [])) → line ++ (10 ∷ left) ≡ before → old ++ before ≡ all → new ++ left ≡ all
line_written old line new left before all written front so_far =
    ap (λ l. l ++ left) written ∙ append_assoc old (line ++ (10 ∷ [])) left ∙ ap (λ l. old ++ l) (append_assoc line (10 ∷ []) left ∙ front) ∙ so_far

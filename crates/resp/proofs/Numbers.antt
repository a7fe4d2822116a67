-- Digits, one at a time.
use Rattle.std.proofs.Common.{◌≡◌, ℕ, ◌+◌, ◌-◌, ◌*◌, ◌<◌, ◌≤◌, true, false, cond, List, [], ◌∷◌, length, get_or, drop, None, refl, ◌∙◌, arith}
use Rattle.std.proofs.lemmas.List.{at_drop_more}
use Rattle.std.proofs.lemmas.Bool.{le-ltb}
use Rattle.std.proofs.lemmas.Bool.Decides.{nat_tests}
use Rattle.resp.specs.Number.{digit, digits, natural, below}

-- the number only grows
pub digits_far : (b n : ℕ) (cs : List ℕ) → b ≤ n → below b (digits n cs) ≡ None
digits_far b n [] h = rw (le-ltb n b h)
digits_far b n (c ∷ cs) h =
    elim (digit c) as (λ t. below b (cond t (digits (10 * n + (c - 48)) cs) None) ≡ None)
    [ true ↦ digits_far b (10 * n + (c - 48)) cs (omega arith) | false ↦ refl ]

digit_none : (b n c : ℕ) (cs : List ℕ) → below b (digits n (c ∷ [])) ≡ None → below b (digits n (c ∷ cs)) ≡ None
digit_none b n c cs e = grind (arith, nat_tests, digits_far)

-- the digit at i, behind those that made n
module _ (b n : ℕ) (cs : List ℕ) (i : ℕ) (h : i < length cs) where
  here : below b (digits n (drop i cs)) ≡ below b (digits n (get_or cs i 0 ∷ drop (i + 1) cs))
  here = at_drop_more (λ l. below b (digits n l)) cs i 0 h

  pub digit_refused : below b (digits n (get_or cs i 0 ∷ [])) ≡ None → below b (digits n (drop i cs)) ≡ None
  digit_refused e = here ∙ digit_none b n (get_or cs i 0) (drop (i + 1) cs) e

pub natural_some : (cs : List ℕ) → 0 < length cs → natural cs ≡ digits 0 cs
natural_some [] h = absurd (omega arith)
natural_some (c ∷ cs) h = refl

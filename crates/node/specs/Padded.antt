-- Bytes with zeros behind them, 64 in all, so that they have one form only.
use Rattle.std.specs.Prelude.{◌≡◌, ℕ, zero, suc, ◌-◌, ◌≤◌, Bool, true, ◌&&◌, List, [], ◌∷◌, ◌++◌, length, take, drop, replicate, ◌==◌, nat_le, refl}
use Rattle.std.proofs.Common.{sym, ap, ◌∙◌, arith, length-append, length-drop, take-append-drop}
use Rattle.std.proofs.lemmas.List.{length-take-le, take_at, drop_at, length-replicate}
use Rattle.std.proofs.lemmas.Bool.{and_parts, and_from, eqb-true, eq-eqb, leb-true, le-leb}

abbrev pub all_zero : List ℕ → Bool
all_zero [] = true
all_zero (b ∷ bs) = b == 0 && all_zero bs

-- n bytes, and zeros behind them
abbrev pub padded : List ℕ → ℕ → Bool
padded all n = length all == 64 && nat_le n 64 && all_zero (drop n all)

zeros_are : (zs : List ℕ) → all_zero zs ≡ true → zs ≡ replicate (length zs) 0
zeros_are [] h = refl
zeros_are (z ∷ zs) h = let p = and_parts (z == 0) (all_zero zs) h in λ i. eqb-true z 0 p.0 i ∷ zeros_are zs p.1 i

zeros_zero : (n : ℕ) → all_zero (replicate n 0) ≡ true
zeros_zero zero = refl
zeros_zero (suc n) = zeros_zero n

pub record Padded (all : List ℕ) (n : ℕ) : Type 0 where
  pub is : all ≡ take n all ++ replicate (64 - n) 0
  pub long : n ≡ length (take n all)

pub padded_parts : (all : List ℕ) (n : ℕ) → padded all n ≡ true → Padded all n
padded_parts all n h =
    let p = and_parts _ _ h in
    let q = and_parts _ _ p.0 in
    let whole = eqb-true (length all) 64 q.0 in
    let within = leb-true n 64 q.1 in
    let left : length (drop n all) ≡ 64 - n = omega (arith, length-drop n all) in
    record {
      is = sym (take-append-drop n all) ∙ ap (λ zs. take n all ++ zs) (zeros_are (drop n all) p.1 ∙ ap (λ k. replicate k 0) left);
      long = sym (length-take-le n all (omega arith));
    }

module _ (bytes all : List ℕ) (is : all ≡ bytes ++ replicate (64 - length bytes) 0) where
  pub padded_front : take (length bytes) all ≡ bytes
  padded_front = ap (take (length bytes)) is ∙ take_at bytes (replicate (64 - length bytes) 0) (length bytes) refl

  pub is_padded : length bytes ≤ 64 → padded all (length bytes) ≡ true
  is_padded short =
      let zeros : List ℕ = replicate (64 - length bytes) 0 in
      let rest : length zeros ≡ 64 - length bytes = length-replicate (64 - length bytes) 0 in
      let whole : length all ≡ 64 = omega (arith, ap length is ∙ length-append bytes zeros) in
      let behind = ap (drop (length bytes)) is ∙ drop_at bytes zeros (length bytes) refl in
      and_from _ _ (and_from _ _ (eq-eqb _ _ whole) (le-leb _ _ short)) (ap all_zero behind ∙ zeros_zero (64 - length bytes))

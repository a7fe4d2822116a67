-- Reading and standing for a value are one: the lines and numbers first.
use Rattle.std.proofs.Common.{◌≡◌, ℕ, suc, ◌+◌, ◌-◌, ◌*◌, Bool, true, false, cond, eqb, ◌⊎◌, List, [], ◌∷◌, ◌++◌, length, take, drop, ℤ, Some, None, Option, sym, refl, ap, ◌∙◌, subst, inl, inr, ⊎_elim, arith}
use Rattle.std.proofs.lemmas.List.{take_at, drop_at, take-append-drop}
use Rattle.std.proofs.lemmas.Bool.{eqb-true, and_parts, false≢true}
use Rattle.std.proofs.lemmas.Bool.Decides.{nat_tests}
use Rattle.resp.proofs.Shared.{same_value, same_rest}
use Rattle.resp.specs.Line.{breaks, plain, ended, closed, line}
use Rattle.resp.specs.Number.{digit, digits, natural, positive, negative, signed}
use Rattle.resp.specs.Read.{Read, read, then}
use Rattle.resp.specs.Reading.{minus_one}
use Rattle.resp.specs.Standing.{crlf, Plain}

pub none_read : {A : Type 0} {x : A} {rest : List ℕ} → None ≡ read x rest → ⊥
none_read e = let z : ◌≡◌ {A = ℕ} 0 1 = cc in omega arith

-- taking readings apart
pub then_read : {A B : Type 0} (r : Option (Read A)) (f : A → List ℕ → Option (Read B)) (y : B) (rest : List ℕ) → then r f ≡ read y rest → (x : Read A) × (r ≡ read x.value x.rest) × (f x.value x.rest ≡ read y rest)
then_read None f y rest e = absurd (none_read e)
then_read (Some x) f y rest e = (x, refl, e)

pub cond_read : {A : Type 0} (b : Bool) (p q : Option (Read A)) (y : A) (rest : List ℕ) → cond b p q ≡ read y rest → ((b ≡ true) × (p ≡ read y rest)) ⊎ ((b ≡ false) × (q ≡ read y rest))
cond_read true p q y rest e = inl (refl, e)
cond_read false p q y rest e = inr (refl, e)

-- lines
plain_take : (bs : List ℕ) → Plain (take (plain bs) bs)
plain_take [] = tt
plain_take (b ∷ bs) = elim (breaks b) as (λ t. breaks b ≡ t → Plain (take (cond t 0 (suc (plain bs))) (b ∷ bs))) [ true ↦ λ e. tt | false ↦ λ e. (e, plain_take bs) ] refl

ended_is : (bs : List ℕ) → ended bs ≡ true → bs ≡ crlf ++ drop 2 bs
ended_is [] e = absurd (false≢true e)
ended_is (c ∷ []) e = absurd (false≢true e)
ended_is (c ∷ d ∷ bs) e =
    let both = and_parts (eqb c 13) (eqb d 10) e in
    rw (eqb-true c 13 both.0, eqb-true d 10 both.1)

pub closed_read : (text bs t rest : List ℕ) → closed text bs ≡ read t rest → (t ≡ text) × (bs ≡ crlf ++ rest)
closed_read text bs t rest e =
    ⊎_elim
    (λ h. (sym (same_value h.1), ended_is bs h.0 ∙ ap (λ l. crlf ++ l) (same_rest h.1)))
    (λ h. absurd (none_read h.1))
    (cond_read (ended bs) (read text (drop 2 bs)) None t rest e)

pub line_sound : (bs t rest : List ℕ) → line bs ≡ read t rest → Plain t × (bs ≡ t ++ (crlf ++ rest))
line_sound bs t rest e =
    let got = closed_read (take (plain bs) bs) (drop (plain bs) bs) t rest e in
    (subst Plain (sym got.0) (plain_take bs), sym (take-append-drop (plain bs) bs) ∙ ap (λ l. l ++ drop (plain bs) bs) (sym got.0) ∙ ap (λ l. t ++ l) got.1)

plain_length : (t rest : List ℕ) → Plain t → plain (t ++ (crlf ++ rest)) ≡ length t
plain_length [] rest h = refl
plain_length (b ∷ t) rest h = rw h.0 (ap suc (plain_length t rest h.1))

pub line_complete : (t rest : List ℕ) → Plain t → line (t ++ (crlf ++ rest)) ≡ read t rest
line_complete t rest h =
    ap (λ n. closed (take n (t ++ (crlf ++ rest))) (drop n (t ++ (crlf ++ rest)))) (plain_length t rest h)
    ∙ ap (λ l. closed l (drop (length t) (t ++ (crlf ++ rest)))) (take_at t (crlf ++ rest) (length t) refl)
    ∙ ap (closed t) (drop_at t (crlf ++ rest) (length t) refl)

-- digits stand on one line, and are no -1
digit_plain : (c : ℕ) → digit c ≡ true → (breaks c ≡ false) × (eqb c 45 ≡ false)
digit_plain c e = (grind (arith, nat_tests), grind (arith, nat_tests))

digits_plain : (n : ℕ) (cs : List ℕ) (m : ℕ) → digits n cs ≡ Some m → Plain cs
digits_plain n [] m e = tt
digits_plain n (c ∷ cs) m e = elim (digit c) as (λ t. digit c ≡ t → cond t (digits (10 * n + (c - 48)) cs) None ≡ Some m → Plain (c ∷ cs)) [
  | true ↦ λ h k. ((digit_plain c h).0, digits_plain (10 * n + (c - 48)) cs m k)
  | false ↦ λ h k. let z : ◌≡◌ {A = ℕ} 0 1 = cc in absurd (omega arith)
] refl e

pub natural_plain : (cs : List ℕ) (m : ℕ) → natural cs ≡ Some m → Plain cs
natural_plain [] m e = tt
natural_plain (c ∷ cs) m e = digits_plain 0 (c ∷ cs) m e

-- a digit is no minus sign
pub natural_digit : (cs : List ℕ) (m : ℕ) → natural cs ≡ Some m → minus_one cs ≡ false
natural_digit [] m e = refl
natural_digit (c ∷ []) m e = refl
natural_digit (c ∷ d ∷ []) m e = elim (digit c) as (λ t. digit c ≡ t → cond t (digits (10 * 0 + (c - 48)) (d ∷ [])) None ≡ Some m → minus_one (c ∷ d ∷ []) ≡ false) [
  | true ↦ λ h k. rw (digit_plain c h).1
  | false ↦ λ h k. let z : ◌≡◌ {A = ℕ} 0 1 = cc in absurd (omega arith)
] refl e
natural_digit (c ∷ d ∷ b ∷ cs) m e = refl

positive_some : (o : Option ℕ) (z : ℤ) → positive o ≡ Some z → (n : ℕ) × (o ≡ Some n)
positive_some None z e = let y : ◌≡◌ {A = ℕ} 0 1 = cc in absurd (omega arith)
positive_some (Some n) z e = (n, refl)

negative_some : (o : Option ℕ) (z : ℤ) → negative o ≡ Some z → (n : ℕ) × (o ≡ Some n)
negative_some None z e = let y : ◌≡◌ {A = ℕ} 0 1 = cc in absurd (omega arith)
negative_some (Some n) z e = (n, refl)

signed_some : (c : ℕ) (cs : List ℕ) (z : ℤ) (minus plus : Bool) → eqb c 45 ≡ minus → eqb c 43 ≡ plus →
    cond minus (negative (natural cs)) (cond plus (positive (natural cs)) (positive (natural (c ∷ cs)))) ≡ Some z → Plain (c ∷ cs)
signed_some c cs z true plus m p e = let n = negative_some (natural cs) z e in (rw (eqb-true c 45 m), natural_plain cs n.0 n.1)
signed_some c cs z false true m p e = let n = positive_some (natural cs) z e in (rw (eqb-true c 43 p), natural_plain cs n.0 n.1)
signed_some c cs z false false m p e = let n = positive_some (natural (c ∷ cs)) z e in natural_plain (c ∷ cs) n.0 n.1

pub signed_plain : (cs : List ℕ) (z : ℤ) → signed cs ≡ Some z → Plain cs
signed_plain [] z e = tt
signed_plain (c ∷ cs) z e = signed_some c cs z (eqb c 45) (eqb c 43) refl refl e

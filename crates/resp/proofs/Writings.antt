-- What writing leaves in memory, and that it reads back.
use Rattle.std.proofs.Common.{◌≡◌, ℕ, suc, ◌+◌, ◌-◌, ◌*◌, ◌^◌, ◌<◌, Bool, true, false, cond, eqb, List, [], ◌∷◌, ◌++◌, length, take, drop, ℤ, pos, negsuc, Some, None, sym, refl, ap, ◌∙◌, subst, append_assoc, append-nil, get_or, Bor, arith, length-append, rules}
use lib.Signed.{mag}
use Rattle.std.proofs.lemmas.Fmt.{digits_decimal, digits_value-decimal, decimal_nonempty}
use Rattle.std.proofs.lemmas.List.{drop-drop, drop_at, take_at, take_more, length-take-le}
use Rattle.std.proofs.lemmas.List.Concat.{flat_map-append}
use Rattle.std.specs.List.{flat_map}
use Rattle.std.proofs.lemmas.Str.Parse.{IsNumeralModel, numerals_by_fold, tells_all_ascii_digits}
use Rattle.std.proofs.lemmas.Bool.{lt-ltb, le-leb, and_parts}
use Rattle.std.proofs.lemmas.Bool.Decides.{nat_tests}
use Rattle.std.specs.Fmt as fmt
use Rattle.std.specs.Str.{all_ascii_digits}
use Rattle.resp.proofs.Readings.{value_complete}
use Rattle.resp.specs.Number.{digit, digits, natural, positive, negative, signed}
use Rattle.resp.specs.Standing.{crlf, Stands}
use Rattle.resp.specs.Value.{Value, bulk_string, integer, array}
use Rattle.resp.specs.Writing.{bulk_text, integer_text, array_text, Written, ReadsBack, Heads}

-- one text behind another
pub written_more : (a b old mid new : List ℕ) (at e₁ e₂ : ℕ) → Written a at old mid (Some e₁) → Written b e₁ mid new (Some e₂) → length mid ≡ length old → Written (a ++ b) at old new (Some e₂)
written_more a b old mid new at e₁ e₂ h k same =
    let front : length (take at old ++ a) ≡ e₁ = length-append (take at old) a ∙ ap (λ n. n + length a) (length-take-le at old (omega (arith, h.0, h.1))) ∙ sym h.0 in
    let split : mid ≡ (take at old ++ a) ++ drop e₁ old = h.2 ∙ sym (append_assoc (take at old) a (drop e₁ old)) in
    let left : take e₁ mid ≡ take at old ++ a = ap (take e₁) split ∙ take_at (take at old ++ a) (drop e₁ old) e₁ front in
    let far : e₁ + length b ≡ e₂ = sym k.0 in
    let right : drop e₂ mid ≡ drop e₂ old =
    ap (λ n. drop n mid) k.0 ∙ sym (drop-drop (length b) e₁ mid)
    ∙ ap (drop (length b)) (ap (drop e₁) split ∙ drop_at (take at old ++ a) (drop e₁ old) e₁ front)
    ∙ drop-drop (length b) e₁ old ∙ ap (λ n. drop n old) far in (
      omega (arith, h.0, k.0, length-append a b),
      omega (arith, k.1),
      k.2 ∙ ap (λ l. l ++ (b ++ drop e₂ mid)) left ∙ ap (λ l. (take at old ++ a) ++ (b ++ l)) right
          ∙ append_assoc (take at old) a (b ++ drop e₂ old) ∙ ap (λ l. take at old ++ l) (sym (append_assoc a b (drop e₂ old))),
    )

-- one part more
pub written_part : (parts : List (Bor (List ℕ))) (i : ℕ) (d : Bor (List ℕ)) → i < length parts → (old mid new : List ℕ) (at e₁ e₂ : ℕ) → Written (flat_map (λ p. p.now) (take i parts)) at old mid (Some e₁) → Written (get_or parts i d).now e₁ mid new (Some e₂) → length mid ≡ length old →
    Written (flat_map (λ p. p.now) (take (i + 1) parts)) at old new (Some e₂)
written_part parts i d h old mid new at e₁ e₂ before here same =
    let all : Bor (List ℕ) → List ℕ = λ p. p.now in
    let step = ap (flat_map all) (take_more parts i d h) ∙ flat_map-append all (take i parts) (get_or parts i d ∷ []) ∙ ap (λ l. flat_map all (take i parts) ++ l) (append-nil (get_or parts i d).now) in
    subst (λ l. Written l at old new (Some e₂)) (sym step) (written_more (flat_map all (take i parts)) (get_or parts i d).now old mid new at e₁ e₂ before here same)

-- decimal texts
abbrev read_on : ℕ → List ℕ → ℕ
read_on n [] = n
read_on n (c ∷ cs) = read_on (10 * n + (c - 48)) cs

own : IsNumeralModel (λ ds. all_ascii_digits ds ≡ true) (read_on 0)
own = numerals_by_fold _ tells_all_ascii_digits read_on (search rules)

digits_fold : (n : ℕ) (cs : List ℕ) → all_ascii_digits cs ≡ true → digits n cs ≡ Some (read_on n cs)
digits_fold n [] h = refl
digits_fold n (c ∷ cs) h =
    let both = and_parts (digit c) (all_ascii_digits cs) h in
    ap (λ b. cond b (digits (10 * n + (c - 48)) cs) None) both.0 ∙ digits_fold (10 * n + (c - 48)) cs both.1

pub natural_decimal : (n : ℕ) → n < 2 ^ 64 → natural (fmt.decimal n) ≡ Some n
natural_decimal n small = go (fmt.decimal n) (decimal_nonempty n small) (digits_decimal own n small) ∙ ap Some (digits_value-decimal own n small)
  where
    go : (ds : List ℕ) → 0 < length ds → all_ascii_digits ds ≡ true → natural ds ≡ Some (read_on 0 ds)
    go [] l h = absurd (omega arith)
    go (c ∷ cs) l h = digits_fold 0 (c ∷ cs) h

-- digits have no sign
unsigned : (cs : List ℕ) (n : ℕ) → natural cs ≡ Some n → signed cs ≡ positive (Some n)
unsigned [] n e = let z : ◌≡◌ {A = ℕ} 0 1 = cc in absurd (omega arith)
unsigned (c ∷ cs) n e = go (digit c) refl e
  where
    go : (b : Bool) → digit c ≡ b → cond b (digits (10 * 0 + (c - 48)) cs) None ≡ Some n → signed (c ∷ cs) ≡ positive (Some n)
    go true d f =
        let minus : eqb c 45 ≡ false = grind (arith, nat_tests) in
        let plus : eqb c 43 ≡ false = grind (arith, nat_tests) in
        rw (minus, plus) (ap positive e)
    go false d f = let z : ◌≡◌ {A = ℕ} 0 1 = cc in absurd (omega arith)

signed_back : (z : ℤ) → mag z < 2 ^ 63 → signed (fmt.signed_decimal z) ≡ Some z
signed_back (pos n) h = unsigned (fmt.decimal n) n (natural_decimal n (omega arith)) ∙ ap (λ b. cond b (Some (pos n)) None) (lt-ltb n (2 ^ 63) h)
signed_back (negsuc n) h = ap negative (natural_decimal (suc n) (omega arith)) ∙ ap (λ b. cond b (Some (negsuc n)) None) (le-leb (suc n) (2 ^ 63) h)

-- what was written reads back
reads_back : (v : Value) (text : List ℕ) → Stands v text → ReadsBack v text
reads_back v text s = (s, λ d rest h. value_complete d text rest v s h)

pub bulk_back : (t : List ℕ) → length t < 2 ^ 64 → ReadsBack (bulk_string t) (bulk_text t)
bulk_back t h = reads_back (bulk_string t) (bulk_text t) (fmt.decimal (length t), natural_decimal (length t) h, refl)

pub integer_back : (z : ℤ) → mag z < 2 ^ 63 → ReadsBack (integer z) (integer_text z)
integer_back z h = reads_back (integer z) (integer_text z) (fmt.signed_decimal z, signed_back z h, refl)

pub array_back : (n : ℕ) → n < 2 ^ 64 → Heads n
array_back n h vs es e f =
    reads_back (array vs) (array_text n ++ es)
    (fmt.decimal n, es, natural_decimal n h ∙ ap Some (sym e), ap (λ l. 42 ∷ l) (append_assoc (fmt.decimal n) crlf es), f)

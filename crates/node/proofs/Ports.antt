-- The port that digits write is the number that the library parses of them.
use Rattle.std.proofs.Common.{◌≡◌, ℕ, ◌+◌, ◌-◌, ◌*◌, ◌<◌, ◌≤◌, ◌^◌, Bool, true, false, cond, ◌&&◌, eqb, leb, List, [], ◌∷◌, length, get_or, Some, None, Ok, Err, Result, refl, sym, ap, ◌∙◌, subst, arith, rules}
use Rattle.std.proofs.lemmas.Bool.{and_parts, and_from, leb-true, le-leb, ne_eqb}
use Rattle.std.proofs.lemmas.Fmt.{IsAscii-from_digits}
use Rattle.std.proofs.lemmas.Str.{IsUtf8-from_ascii}
use Rattle.std.proofs.lemmas.Str.Parse.{IsNumeralModel, numerals_by_fold, parse_plain}
use Rattle.std.specs.Result.{result_ok, OkIff}
use Rattle.std.specs.Str.{all_ascii_digits, IsUtf8}
use Rattle.std.specs.Str.Parse.{ParsesUnsigned}
use Rattle.node.specs.Port.{number, port_on, port_of}

pub number_grows : (n : ℕ) (ds : List ℕ) → n ≤ number n ds
number_grows n [] = omega arith
number_grows n (c ∷ cs) = let more = number_grows (10 * n + (c - 0x30)) cs in omega arith

pub own : IsNumeralModel (λ ds. all_ascii_digits ds ≡ true) (number 0)
own = numerals_by_fold _ (search rules) number (search rules)

pub port_so : (ds : List ℕ) (p : ℕ) → all_ascii_digits ds ≡ true → number 0 ds ≡ p → 0 < length ds → 0x30 < get_or ds 0 0 → p ≤ 65535 → port_of ds ≡ Some p
port_so [] p digits is some first high = absurd (omega arith)
port_so (c ∷ cs) p digits is some first high =
    let lead : eqb c 0x30 ≡ false = ne_eqb c 0x30 (omega arith) in
    let small : leb (number 0 (c ∷ cs)) 65535 ≡ true = le-leb (number 0 (c ∷ cs)) 65535 (omega arith) in
    ap (λ b. cond b None (port_on 0 (c ∷ cs))) lead ∙ ap (λ b. cond b (Some (number 0 (c ∷ cs))) None) (and_from (all_ascii_digits (c ∷ cs)) _ digits small) ∙ ap Some is

unless : (t u : Bool) (n : ℕ) → (u ≡ true → ⊥) → cond t None (cond u (Some n) None) ≡ None
unless true u n h = refl
unless false true n h = absurd (h refl)
unless false false n h = refl

no_port : (ds : List ℕ) → (all_ascii_digits ds ≡ true → 0 < length ds → number 0 ds ≤ 65535 → ⊥) → port_of ds ≡ None
no_port [] h = refl
no_port (c ∷ cs) h =
    let n : ℕ = number 0 (c ∷ cs) in
    let digits : Bool = all_ascii_digits (c ∷ cs) in
    unless (eqb c 0x30) (digits && leb n 65535) n (λ e. let p = and_parts digits (leb n 65535) e in h p.0 (omega arith) (leb-true n 65535 p.1))

pub no_text : (ds : List ℕ) → (IsUtf8 ds → ⊥) → port_of ds ≡ None
no_text ds h = no_port ds (λ digits some small. h (IsUtf8-from_ascii ds (IsAscii-from_digits ds (own.to ds digits))))

as_port : {E : Type 0} (ds : List ℕ) (r : Result ℕ E) → 0x30 < get_or ds 0 0 → OkIff r ((all_ascii_digits ds ≡ true) × (0 < length ds) × (number 0 ds < 2 ^ 16)) (number 0 ds) → result_ok r ≡ port_of ds
as_port ds (Ok p) first so = ap Some so.1 ∙ sym (port_so ds (number 0 ds) so.0.0 refl so.0.1 first (omega (arith, so.0.2)))
as_port ds (Err e) first so = sym (no_port ds (λ digits some small. so (digits, some, omega (arith, small))))

pub parsed_port : {E : Type 0} (ds text : List ℕ) (r : Result ℕ E) → 0x30 < get_or ds 0 0 → text ≡ ds → ParsesUnsigned 16 10 text r → result_ok r ≡ port_of ds
parsed_port {E} ds text r first same h =
    as_port ds r first (parse_plain own {E = E} 16 ds r (subst (λ t. ParsesUnsigned 16 10 t r) same h) (λ plus. omega (arith, plus)))

-- six digits or more, of which the first is no zero, write more than a port
number_long : (ds : List ℕ) → 5 < length ds → 0x30 < get_or ds 0 0 → 65535 < number 0 ds
number_long [] long first = absurd (omega arith)
number_long (a ∷ []) long first = absurd (omega arith)
number_long (a ∷ b ∷ []) long first = absurd (omega arith)
number_long (a ∷ b ∷ c ∷ []) long first = absurd (omega arith)
number_long (a ∷ b ∷ c ∷ d ∷ []) long first = absurd (omega arith)
number_long (a ∷ b ∷ c ∷ d ∷ e ∷ []) long first = absurd (omega arith)
number_long (a ∷ b ∷ c ∷ d ∷ e ∷ f ∷ ds) long first =
    let n : ℕ = 10 * (10 * (10 * (10 * (10 * (10 * 0 + (a - 0x30)) + (b - 0x30)) + (c - 0x30)) + (d - 0x30)) + (e - 0x30)) + (f - 0x30) in
    let same : number 0 (a ∷ b ∷ c ∷ d ∷ e ∷ f ∷ ds) ≡ number n ds = refl in
    omega (arith, same, number_grows n ds)

pub too_many_digits : (ds : List ℕ) → 5 < length ds → 0x30 < get_or ds 0 0 → port_of ds ≡ None
too_many_digits ds long first = no_port ds (λ digits some small. omega (arith, number_long ds long first))

-- A walk's length is never 0.
use Rattle.std.proofs.Common.{◌≡◌, ℕ, List, [], length, take, MatchOption, Some, None, Option, sym, refl, ap, ◌∙◌, subst, inl, inr, arith}
use Rattle.resp.proofs.Standings.{none_read}
use Rattle.resp.specs.Read.{Read}
use Rattle.resp.specs.Reading.{value}
use Rattle.resp.specs.Standing.{Stands, Stood}
use Rattle.resp.specs.Told.{seen, told_walk}
use Rattle.resp.specs.Value.{Value, simple_string, simple_error, integer, bulk_string, null, array}
use Rattle.resp.specs.declared.place.Walk.{Walk}

-- no value stands without a byte
never_empty : (v : Value) → Stands v [] → ⊥
never_empty (simple_string t) s = omega (arith, ap length s.1)
never_empty (simple_error t) s = omega (arith, ap length s.1)
never_empty (integer z) s = omega (arith, ap length s.2)
never_empty (bulk_string t) s = omega (arith, ap length s.2)
never_empty null (inl s) = omega (arith, ap length s)
never_empty null (inr s) = omega (arith, ap length s)
never_empty (array vs) s = omega (arith, ap length s.3)

some_bytes : (d : ℕ) (bs : List ℕ) (w : Walk) → Stood d bs (Some w) → w.len ≡ 0 → ⊥
some_bytes d bs w stood none = never_empty stood.0 (subst (λ n. Stands stood.0 (take n bs)) none stood.1)

nothing_read : (r : Option (Read Value)) → None ≡ seen r → r ≡ None
nothing_read None h = refl
nothing_read (Some x) h = absurd (none_read h)

-- so 0 tells that nothing was read
pub no_value : (d : ℕ) (bs : List ℕ) (n : ℕ) (Told : Walk → Type 0) (r : Option Walk) → told_walk bs r ≡ seen (value d bs) → Stood d bs r → MatchOption r (n ≡ 0) Told → ((w : Walk) → Told w → n ≡ w.len) → n ≡ 0 → value d bs ≡ None
no_value d bs n Told None told stood h tells none = nothing_read (value d bs) told
no_value d bs n Told (Some w) told stood h tells none = absurd (some_bytes d bs w stood (sym (tells w h) ∙ none))

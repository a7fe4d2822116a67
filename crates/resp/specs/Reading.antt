-- How one value is read at the front of some bytes.
use Rattle.std.specs.Prelude.{ℕ, zero, suc, Bool, false, cond, ◌&&◌, List, [], ◌∷◌, length, take, drop, ℤ, Some, None, Option, ◌==◌, nat_le}
use Rattle.resp.specs.Line.{line, closed}
use Rattle.resp.specs.Number.{natural, signed}
use Rattle.resp.specs.Read.{Read, read, then}
use Rattle.resp.specs.Value.{Value, simple_string, simple_error, integer, bulk_string, null, array, Values, none, more}

-- a value that is whole, or an array whose elements are still to come
pub data Head : Type 0 where
  whole : Value → Head
  elements : ℕ → Head

abbrev pub minus_one : List ℕ → Bool
minus_one [] = false
minus_one (c ∷ []) = false
minus_one (c ∷ d ∷ []) = c == 45 && d == 49
minus_one (c ∷ d ∷ e ∷ rest) = false

-- a length: -1 alone is Nil, and none is larger than the number of bytes behind it
abbrev pub bounded : Option ℕ → List ℕ → Option (Read (Option ℕ))
bounded None rest = None
bounded (Some n) rest = cond (nat_le n (length rest)) (read (Some n) rest) None

abbrev pub size : List ℕ → Option (Read (Option ℕ))
size bs = then (line bs) (λ t rest. cond (minus_one t) (read None rest) (bounded (natural t) rest))

abbrev pub texted : (List ℕ → Value) → List ℕ → Option (Read Head)
texted kind bs = then (line bs) (λ t rest. read (whole (kind t)) rest)

abbrev pub valued : Option ℤ → List ℕ → Option (Read Head)
valued None rest = None
valued (Some z) rest = read (whole (integer z)) rest

abbrev pub bulk : Option ℕ → List ℕ → Option (Read Head)
bulk None rest = read (whole null) rest
bulk (Some n) rest = then (closed (take n rest) (drop n rest)) (λ t behind. read (whole (bulk_string t)) behind)

abbrev pub counted : Option ℕ → List ℕ → Option (Read Head)
counted None rest = read (whole null) rest
counted (Some n) rest = read (elements n) rest

-- each type byte, with what it announces
abbrev pub kinds : List ℕ → List (ℕ × Option (Read Head))
kinds bs =
    (43, texted simple_string bs) ∷ (45, texted simple_error bs) ∷ (58, then (line bs) (λ t rest. valued (signed t) rest))
    ∷ (36, then (size bs) bulk) ∷ (42, then (size bs) counted) ∷ []

abbrev pub announced : ℕ → List (ℕ × Option (Read Head)) → Option (Read Head)
announced k [] = None
announced k (x ∷ xs) = cond (k == x.0) x.1 (announced k xs)

abbrev pub head : List ℕ → Option (Read Head)
head [] = None
head (k ∷ bs) = announced k (kinds bs)

abbrev pub several : (List ℕ → Option (Read Value)) → ℕ → List ℕ → Option (Read Values)
several one zero bs = read none bs
several one (suc n) bs = then (one bs) (λ v rest. then (several one n rest) (λ vs behind. read (more v vs) behind))

abbrev pub completed : (ℕ → List ℕ → Option (Read Values)) → Head → List ℕ → Option (Read Value)
completed nested (whole v) rest = read v rest
completed nested (elements n) rest = then (nested n rest) (λ vs behind. read (array vs) behind)

-- one value, with arrays nested at most d deep
abbrev pub value : ℕ → List ℕ → Option (Read Value)
value zero bs = then (head bs) (completed (λ n rest. None))
value (suc d) bs = then (head bs) (completed (several (value d)))

-- one value, with nothing behind it
abbrev pub alone : Option (Read Value) → Option Value
alone None = None
alone (Some x) = cond (length x.rest == 0) (Some x.value) None

-- the value that the bytes are, with arrays nested at most d deep
abbrev pub whole_value : ℕ → List ℕ → Option Value
whole_value d bs = alone (value d bs)

-- The elements of an array, one by one, as the code tells them.
use Rattle.std.specs.Prelude.{◌≡◌, ℕ, suc, Bool, true, false, List, ℤ, IsOkAnd, Some, None, Option, Result}
use Rattle.std.specs.Borrow.{Bor}
use Rattle.errors.specs.declared.redis_error.Refusal.{Refusal}
use Rattle.resp.specs.Value.{Value, integer, array, Values, none, more}
use Rattle.slot_map.specs.Answer.{integer_of, nodes, served, range}
use Rattle.slot_map.specs.Front.{Begins, Follow}
use Rattle.slot_map.specs.declared.topology.elements.Elements.{Elements}

-- where the next of them begins: at the front of the bytes, or behind the value there that was handed out
abbrev pub Onward : ℕ → Bool → List ℕ → List ℕ → Type 0
Onward d false bs front = bs ≡ front
Onward d true bs front = (v : Value) × Begins d bs v front

-- these values are to come, each nested at most d deep, and behind them the rest
pub record Come (d : ℕ) (e : Elements) (vs : Values) (behind : List ℕ) : Type 0 where
  pub deep : e.depth ≡ d
  pub front : List ℕ
  pub onward : Onward d e.handed e.bytes.now front
  pub follow : Follow d e.count front vs behind

-- all elements of an array are to come
pub record Stand (d : ℕ) (e : Elements) (behind : List ℕ) (v : Value) : Type 0 where
  pub values : Values
  pub is : v ≡ array values
  pub come : Come d e values behind

-- the next of them, from where it begins, and behind it the others; or there are no more
abbrev pub Gives : Elements → Option (Result (Bor (List ℕ)) Refusal) → Elements → Type 0
Gives e None f = e.count ≡ 0
Gives e (Some r) f =
    (e.count ≡ suc f.count) × (f.depth ≡ e.depth)
    × ((front : List ℕ) → Onward e.depth e.handed e.bytes.now front → IsOkAnd r (λ x. x.now ≡ front))
    × ((front rest : List ℕ) (v : Value) → Onward e.depth e.handed e.bytes.now front → Begins e.depth front v rest → Onward e.depth f.handed f.bytes.now rest)

-- the integer that values begin with
abbrev pub leading : Values → Option ℤ
leading none = None
leading (more v vs) = integer_of v

-- of the values that were to come, all behind the integer that came first
pub record Led (d : ℕ) (z : ℤ) (vs : Values) (f : Elements) (behind : List ℕ) : Type 0 where
  pub others : Values
  pub is : vs ≡ more (integer z) others
  pub come : Come d f others behind

-- whoever answered, the range from s to e that the values to come serve
pub record Heads (s e : ℕ) (es : Elements) (behind : List ℕ) (v : Value) : Type 0 where
  pub values : Values
  pub come : Come 6 es values behind
  pub is : (answering : List ℕ) → range answering v ≡ served s e (nodes answering values)

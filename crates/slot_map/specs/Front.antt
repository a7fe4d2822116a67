-- What stands at the front of some bytes.
use Rattle.std.specs.Prelude.{◌≡◌, ℕ, ◌<◌, List, length, IsSomeAnd, None, Ok, Err, Option, Result}
use Rattle.std.specs.Option.{option_map}
use Rattle.errors.specs.declared.redis_error.Refusal.{Refusal}
use Rattle.errors.specs.declared.redis_error.Refusal.TheVariants.{SlotTable}
use Rattle.node.specs.declared.address.NodeAddress.{NodeAddress}
use Rattle.resp.specs.Read.{read}
use Rattle.resp.specs.Reading.{several, value}
use Rattle.resp.specs.Value.{Value, Values}
use Rattle.slot_map.specs.Answer.{served, range}
use Rattle.slot_map.specs.Range.{Range, range_of}
use Rattle.slot_map.specs.declared.slot_range.SlotRange.{SlotRange}

-- a value, with arrays nested at most d deep, and behind it the rest
unfoldable pub Begins : ℕ → List ℕ → Value → List ℕ → Type 0
Begins d bs v rest = value d bs ≡ read v rest

-- n values, one behind the other
unfoldable pub Follow : ℕ → ℕ → List ℕ → Values → List ℕ → Type 0
Follow d n bs vs rest = several (value d) n bs ≡ read vs rest

-- P holds of the value at the front, if there is one
abbrev pub Front : ℕ → List ℕ → (Value → List ℕ → Type 0) → Type 0
Front d bs P = (v : Value) (rest : List ℕ) → Begins d bs v rest → P v rest

-- whoever answered, no range
abbrev pub NoRange : Value → Type 0
NoRange v = (answering : List ℕ) → range answering v ≡ None

-- the range that these nodes serve; or they are too many
abbrev pub Serves : ℕ → ℕ → List NodeAddress → Result (Option SlotRange) Refusal → Type 0
Serves s e ns (Ok r) = option_map range_of r ≡ served s e ns
Serves s e ns (Err x) = (x ≡ SlotTable) × (9 < length ns)

-- this range, or none; or it has too many replicas
abbrev pub Ranged : Option Range → Result (Option SlotRange) Refusal → Type 0
Ranged o (Ok r) = option_map range_of r ≡ o
Ranged o (Err x) = (x ≡ SlotTable) × IsSomeAnd o (λ r. 8 < length r.replicas)

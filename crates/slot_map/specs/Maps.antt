-- What the slot table says, and how an answer is told by it.
use Rattle.std.specs.Prelude.{◌≡◌, true, false, List, length, Ok, Err, Result, nat_le}
use Rattle.errors.specs.declared.redis_error.Refusal.{Refusal}
use Rattle.errors.specs.declared.redis_error.Refusal.TheVariants.{SlotTable}
use Rattle.slot_map.specs.Range.{Range}
use Rattle.slot_map.specs.Table.{addresses}
use Rattle.slot_map.specs.Tables.{ranges_of}
use Rattle.slot_map.specs.declared.slot_map.SlotMap.{SlotMap}

abbrev pub table_of : SlotMap → List Range
table_of m = ranges_of m.slots

-- the table of these ranges; or they name too many addresses
abbrev pub Limited : List Range → Result SlotMap Refusal → Type 0
Limited t (Ok m) = (table_of m ≡ t) × (nat_le (length (addresses false t)) 64 ≡ true)
Limited t (Err e) = (e ≡ SlotTable) × (nat_le (length (addresses false t)) 64 ≡ false)

-- a table, or the refusal
abbrev pub told : Result SlotMap Refusal → Result (List Range) Refusal
told (Ok m) = Ok (table_of m)
told (Err e) = Err e

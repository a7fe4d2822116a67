-- What the code's sets of addresses say.
use Rattle.std.specs.Prelude.{◌≡◌, ◌<◌, Bool, List, length, Ok, Err, Result}
use Rattle.errors.specs.declared.redis_error.Refusal.{Refusal}
use Rattle.errors.specs.declared.redis_error.Refusal.TheVariants.{SlotTable}
use Rattle.node.specs.Ranks.{address_rank}
use Rattle.node.specs.declared.address.NodeAddress.{NodeAddress}
use Rattle.ordered.specs.Tables.{table_of}
use Rattle.slot_map.specs.Range.{Range}
use Rattle.slot_map.specs.Table.{filled, addresses}
use Rattle.slot_map.specs.declared.address_set.AddressSet.{AddressSet}

abbrev pub set_of : AddressSet → List NodeAddress
set_of s = table_of s.addresses

-- with these addresses too; or they would be too many
abbrev pub Gains : List NodeAddress → AddressSet → AddressSet → Result Unit Refusal → Type 0
Gains ns old new (Ok x) = set_of new ≡ filled (λ a. a) address_rank (set_of old) ns
Gains ns old new (Err e) = (e ≡ SlotTable) × (64 < length (filled (λ a. a) address_rank (set_of old) ns))

-- the addresses that the ranges name; or they are too many
abbrev pub Collected : Bool → List Range → Result AddressSet Refusal → Type 0
Collected only rs (Ok s) = set_of s ≡ addresses only rs
Collected only rs (Err e) = (e ≡ SlotTable) × (64 < length (addresses only rs))

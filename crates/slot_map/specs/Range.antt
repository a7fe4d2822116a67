-- A range of slots, both ends included, and the nodes that serve it.
use Rattle.std.specs.Prelude.{◌≡◌, ℕ, List, [], ◌∷◌, ◌++◌, length, Ok, Err, Result}
use Rattle.errors.specs.declared.redis_error.Refusal.{Refusal}
use Rattle.errors.specs.declared.redis_error.Refusal.TheVariants.{SlotTable}
use Rattle.ordered.specs.Rows.{row_of}
use Rattle.node.specs.declared.address.NodeAddress.{NodeAddress}
use Rattle.slot_map.specs.declared.slot_range.SlotRange.{SlotRange}

pub record Range : Type 0 where
  pub start : ℕ
  pub end : ℕ
  pub primary : NodeAddress
  pub replicas : List NodeAddress

abbrev pub range_of : SlotRange → Range
range_of r = record { start = r.start; end = r.end; primary = r.primary; replicas = row_of r.replicas }

abbrev pub with_replica : NodeAddress → Range → Range
with_replica a r = record { start = r.start; end = r.end; primary = r.primary; replicas = r.replicas ++ (a ∷ []) }

-- one replica more; or there are eight already, and nothing changed
abbrev pub Joined : NodeAddress → SlotRange → SlotRange → Result Unit Refusal → Type 0
Joined a old new (Ok x) = range_of new ≡ with_replica a (range_of old)
Joined a old new (Err e) = (e ≡ SlotTable) × (length (range_of old).replicas ≡ 8) × (new ≡ old)

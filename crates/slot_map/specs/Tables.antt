-- What the code's tables say.
use Rattle.std.specs.Prelude.{◌≡◌, ℕ, ◌<◌, ◌≤◌, true, false, List, map, length, Ok, Err, Result, slice_index_or}
use Rattle.errors.specs.declared.redis_error.Refusal.{Refusal}
use Rattle.errors.specs.declared.redis_error.Refusal.TheVariants.{SlotTable}
use Rattle.ordered.specs.Table.{put}
use Rattle.ordered.specs.Tables.{table_of}
use Rattle.slot_map.specs.Range.{Range, range_of}
use Rattle.slot_map.specs.Table.{table, listable}
use Rattle.slot_map.specs.declared.slot_range.SlotRange.{SlotRange}
use Rattle.slot_map.specs.declared.slot_range_map.SlotRangeMap.{SlotRangeMap}
use Rattle.std.specs.Ordering.{nat_cmp}

abbrev pub ranges_of : SlotRangeMap → List Range
ranges_of m = map range_of (table_of m.ranges)

-- the range is in its place; or all places are taken, and nothing changed
abbrev pub Put : Range → SlotRangeMap → SlotRangeMap → Result Unit Refusal → Type 0
Put r old new (Ok x) = ranges_of new ≡ put (λ q. q.end) nat_cmp r (ranges_of old)
Put r old new (Err e) = (e ≡ SlotTable) × (length (ranges_of old) ≡ 256) × (ranges_of new ≡ ranges_of old)

-- the ranges before the place end below the slot, and the one there ends at or above it
abbrev pub Reaching : ℕ → List SlotRange → ℕ → Type 0
Reaching slot rs at =
    (at ≤ length rs) × ((i : ℕ) (d : SlotRange) → i < at → (slice_index_or rs i d).end < slot) × ((d : SlotRange) → at < length rs → slot ≤ (slice_index_or rs at d).end)

-- the table of these ranges and how many they are; or they are too many
abbrev pub Listed : List Range → SlotRangeMap → Result ℕ Refusal → Type 0
Listed rs new (Ok n) = (ranges_of new ≡ table rs) × (n ≡ length rs) × (n ≤ 256)
Listed rs new (Err e) = (e ≡ SlotTable) × (256 < length rs)

-- the table of these ranges; or they are too many, or one has too many replicas
abbrev pub Gathered : List Range → Result SlotRangeMap Refusal → Type 0
Gathered rs (Ok m) = (ranges_of m ≡ table rs) × (listable rs ≡ true)
Gathered rs (Err e) = (e ≡ SlotTable) × (listable rs ≡ false)

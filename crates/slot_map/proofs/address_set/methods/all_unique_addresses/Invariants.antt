use Rattle.std.proofs.Common.{◌≡◌, map, drop}
use Rattle.node.specs.Ranks.{address_rank}
use Rattle.std.specs.List.{flat_map}
use Rattle.slot_map.specs.Range.{range_of}
use Rattle.slot_map.specs.Sets.{set_of}
use Rattle.slot_map.specs.Table.{filled, wanted, addresses}
use Rattle.slot_map.proofs.address_set.methods.all_unique_addresses.Given as goal

abbrev pub invariant-loop-range : goal.invariant-loop-range
invariant-loop-range l =
    filled (λ a. a) address_rank (set_of l.set) (flat_map (wanted l.only_primaries) (map range_of (drop l.range-index l.ranges))) ≡ addresses l.only_primaries (map range_of l.ranges)

use Rattle.std.proofs.Common.{false, map, length, sym, ap, ◌∙◌, subst, arith}
use Rattle.std.proofs.lemmas.Bool.{leb-true}
use Rattle.std.specs.List.{flat_map}
use Rattle.slot_map.specs.Distinct.{EachOnce}
use Rattle.slot_map.specs.Maps.{table_of}
use Rattle.slot_map.specs.Range.{range_of}
use Rattle.slot_map.specs.Sets.{Collected}
use Rattle.slot_map.specs.Table.{wanted, addresses}
use Rattle.slot_map.proofs.Distinct.{each_once, wanted_fewer, all_fit}
use Rattle.slot_map.proofs.slot_map.SlotMap.unique_addresses.Goals as goal

pub unwrap-requires : goal.unwrap-requires
unwrap-requires c =
    let slots = c.args.self.now in
    let only = c.args.only_primaries in
    all_fit only _ c.all_unique_addresses.result c.all_unique_addresses.ensures
    (omega (arith, ap (λ t. length (addresses only t)) c.ranges-2.ensures, wanted_fewer only (table_of slots), leb-true (length (addresses false (table_of slots))) 64 slots.few))

pub returns-clause-once : goal.returns-clause-once
returns-clause-once c =
    let only = c.args.only_primaries in
    let named = flat_map (wanted only) (table_of c.args.self.now) in
    let value = subst (Collected only (map range_of c.ranges-2.result.now)) c.unwrap.ensures c.all_unique_addresses.ensures ∙ ap (addresses only) c.ranges-2.ensures in
    subst (EachOnce named) (sym value) (each_once named)

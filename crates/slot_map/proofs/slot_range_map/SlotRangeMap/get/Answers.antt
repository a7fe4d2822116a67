use Rattle.std.proofs.Common.{subst, rules}
use Rattle.std.specs.List.{ItemBy}
use Rattle.ordered.specs.Tables.{table_of}
use Rattle.slot_map.proofs.Lookups.{looked_up}
use Rattle.slot_map.proofs.slot_range_map.SlotRangeMap.get.Goals as goal

pub returns : goal.returns
returns c =
    let table = c.args.self.now.ranges in
    let at = c.first_reaching-at.result in
    looked_up c.args.slot (table_of table) at table.ascends c.first_reaching-at.ensures (λ x. x.now) _ (λ x b h. search rules) c.get.result c.filter.result
    (subst (λ l. ItemBy (λ x. x.now) l at at c.get.result) c.as_slice.ensures c.get.ensures.lookup) c.filter.ensures

use Rattle.std.proofs.Common.{map, ap, ◌∙◌}
use Rattle.ordered.specs.Tables as tables
use Rattle.slot_map.specs.Range.{range_of}
use Rattle.slot_map.proofs.Insertions.{map_put, went_in}
use Rattle.slot_map.proofs.slot_range_map.SlotRangeMap.insert.Goals as goal
use Rattle.std.specs.Ordering.{nat_cmp}

pub returns : goal.returns
returns c =
    let r = c.args.range in
    let old = c.args.self.now.ranges in
    let done = went_in (tables.Put r old c.insert.new.self) _ c.insert.result c.map_err.result c.in_ok-map_err.field-0 c.in_ok-map_err.was c.insert.ensures c.map_err.ensures.cases in
    ap (map range_of) done.1.1 ∙ map_put range_of (λ q. q.end) nat_cmp r (tables.table_of old)

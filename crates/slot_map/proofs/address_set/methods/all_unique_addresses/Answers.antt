use Rattle.std.proofs.Common.{◌+◌, map, length, drop, sym, ap, ◌∙◌, arith}
use Rattle.node.specs.Ranks.{address_rank}
use Rattle.std.proofs.lemmas.Result.{err_from_is_err_and}
use Rattle.std.specs.List.{flat_map}
use Rattle.slot_map.specs.Range.{range_of}
use Rattle.slot_map.specs.Sets.{set_of}
use Rattle.slot_map.specs.Table.{filled, wanted}
use Rattle.slot_map.proofs.Tables.{range_more, length_filled}
use Rattle.slot_map.proofs.address_set.methods.all_unique_addresses.Goals as goal

pub returns-in_err-insert_range : goal.returns-in_err-insert_range
returns-in_err-insert_range c =
    let rs = c.args.ranges.now in
    let i = c.loop-range.range-index in
    let x = c.range-item.result in
    let only = c.args.only_primaries in
    let set = set_of c.loop-range.set in
    let refused = c.in_err-insert_range.ensures in
    let all = sym c.loop-range.invariant ∙ range_more only set rs i x c.loop-range-test.true c.range-item.is in
    let more = (length_filled (λ a. a) address_rank (filled (λ a. a) address_rank set (wanted only (range_of x))) (flat_map (wanted only) (map range_of (drop (i + 1) rs)))).0 in
    let p = err_from_is_err_and c.from_residual.result c.from_residual.ensures.1 in
    rw (p.1, p.2) (refused.0, omega (arith, ap length all, more, refused.1))

pub loop-range-preserved : goal.loop-range-preserved
loop-range-preserved c =
    let rs = c.args.ranges.now in
    let i = c.loop-range.range-index in
    let only = c.args.only_primaries in
    ap (λ t. filled (λ a. a) address_rank t (flat_map (wanted only) (map range_of (drop (i + 1) rs)))) c.in_ok-insert_range.ensures
    ∙ sym (range_more only (set_of c.loop-range.set) rs i c.range-item.result c.loop-range-test.true c.range-item.is) ∙ c.loop-range.invariant

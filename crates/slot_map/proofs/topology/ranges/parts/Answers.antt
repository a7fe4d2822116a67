use Rattle.std.proofs.Common.{w64, rules}
use Rattle.std.proofs.lemmas.Int.{to_z-of_z}
use Rattle.slot_map.proofs.Ranges.{few_items, no_start, no_end, heads}
use Rattle.slot_map.proofs.topology.ranges.parts.Goals as goal

pub returns-then-elements-lt3 : goal.returns-then-elements-lt3
returns-then-elements-lt3 c v rest stand =
    few_items 6 c.args.elements.count stand.come.front rest v c.if-elements-lt3.true (record { values = stand.values; is = stand.is; follow = stand.come.follow })

pub returns-in_err-next_integer : goal.returns-in_err-next_integer
returns-in_err-next_integer c v rest stand =
    rw c.from_residual.ensures (no_start v stand.values stand.is (c.in_err-next_integer.ensures 5 stand.values rest stand.come))

pub returns-in_err-next_integer-2 : goal.returns-in_err-next_integer-2
returns-in_err-next_integer-2 c v rest stand =
    let start = c.in_ok-next_integer.ensures 5 stand.values rest stand.come in
    rw c.from_residual-in_err-next_integer-2.ensures (no_end v stand.values stand.is c.in_ok-next_integer.field-0 start.others start.is (c.in_err-next_integer-2.ensures 5 start.others rest start.come))

pub returns : goal.returns
returns c v rest stand =
    let x = c.in_ok-next_integer in
    let y = c.in_ok-next_integer-2 in
    let start = x.ensures 5 stand.values rest stand.come in
    let end = y.ensures 5 start.others rest start.come in
    rw (c.slot_number-start.ensures, c.slot_number-end.ensures, to_z-of_z w64 x.field-0 (search rules), to_z-of_z w64 y.field-0 (search rules)) (heads v stand.values stand.is x.field-0 start.others start.is y.field-0 c.next_integer-2.new.self rest end)

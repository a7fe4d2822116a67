use Rattle.std.proofs.Common.{[], ◌∷◌, ◌++◌, length, sym, ap, ◌∙◌, arith}
use Rattle.std.proofs.lemmas.List.{length_push}
use Rattle.std.specs.Option.{option_map, option_to_list}
use Rattle.ordered.specs.Table.{put}
use Rattle.slot_map.specs.Range.{range_of}
use Rattle.slot_map.specs.Table.{table}
use Rattle.slot_map.proofs.Tables.{filled_append, length_filled}
use Rattle.slot_map.proofs.topology.ranges.list.Goals as goal
use Rattle.std.specs.Ordering.{nat_cmp}

pub returns-in_err-insert : goal.returns-in_err-insert
returns-in_err-insert c rs told =
    let full = c.in_err-insert.ensures.1 in
    absurd (omega (arith, full, ap length told.0, (length_filled (λ r. r.end) nat_cmp [] rs).1, told.1, c.if-listed-ge-MOST_RANGES.false))

pub returns : goal.returns
returns c rs told =
    let r = range_of c.in-Some.range in
    let more = ap (λ o. rs ++ option_to_list (option_map range_of o)) c.in-Some.is in (
      c.in_ok-insert.ensures ∙ ap (λ t. put (λ q. q.end) nat_cmp r t) told.0 ∙ sym (ap table more ∙ filled_append (λ q. q.end) nat_cmp [] rs (r ∷ [])),
      omega (arith, told.1, ap length more ∙ length_push rs r),
      omega (arith, c.if-listed-ge-MOST_RANGES.false),
    )

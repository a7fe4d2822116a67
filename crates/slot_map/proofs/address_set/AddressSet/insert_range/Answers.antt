use Rattle.std.proofs.Common.{◌<◌, length, subst}
use Rattle.node.specs.Ranks.{address_rank}
use Rattle.ordered.specs.Table.{put}
use Rattle.std.proofs.lemmas.Result.{err_from_is_err_and}
use Rattle.slot_map.specs.Range.{range_of}
use Rattle.slot_map.specs.Sets.{set_of}
use Rattle.slot_map.proofs.Tables.{primary_first}
use Rattle.slot_map.proofs.address_set.AddressSet.insert_range.Goals as goal

pub returns-in_err-insert : goal.returns-in_err-insert
returns-in_err-insert c =
    let refused = c.in_err-insert.ensures in
    let p = err_from_is_err_and c.from_residual.result c.from_residual.ensures.1 in
    rw (p.1, p.2) (refused.0, primary_first c.args.only_primaries (range_of c.args.range.now) (set_of c.args.self.now) 64 (subst (λ a. 64 < length (put (λ b. b) address_rank a (set_of c.args.self.now))) c.primary.ensures refused.1))

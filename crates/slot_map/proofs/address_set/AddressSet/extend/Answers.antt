use Rattle.std.proofs.Common.{◌+◌, length, drop, sym, ap, ◌∙◌, arith}
use Rattle.node.specs.Ranks.{address_rank}
use Rattle.std.proofs.lemmas.Result.{err_from_is_err_and}
use Rattle.ordered.specs.Table.{put}
use Rattle.slot_map.specs.Sets.{set_of}
use Rattle.slot_map.proofs.Tables.{filled_more, length_filled}
use Rattle.slot_map.proofs.address_set.AddressSet.extend.Goals as goal

pub returns-in_err-insert : goal.returns-in_err-insert
returns-in_err-insert c =
    let xs = c.args.addresses.now in
    let i = c.loop-address.address-index in
    let x = c.address-item.result in
    let set = set_of c.loop-address.self in
    let refused = c.in_err-insert.ensures in
    let all = sym c.loop-address.invariant ∙ filled_more (λ a. a) address_rank set xs i x c.loop-address-test.true c.address-item.is in
    let more = (length_filled (λ a. a) address_rank (put (λ a. a) address_rank x set) (drop (i + 1) xs)).0 in
    let p = err_from_is_err_and c.from_residual.result c.from_residual.ensures.1 in
    rw (p.1, p.2) (refused.0, omega (arith, ap length all, more, refused.1))

use Rattle.std.proofs.Common.{refl}
use Rattle.ordered.proofs.Fronts.{all_of_it, found_in_front, told}
use Rattle.ordered.proofs.Removals.{taken_out}
use Rattle.ordered.specs.Orders.{lawful}
use Rattle.ordered.proofs.edits.remove.Goals as goal

pub returns-clause-removed : goal.returns-clause-removed
returns-clause-removed g c = λ table.
    let old = c.args.entries.now in
    let n = c.args.count.now in
    let m = c.min-n.result in
    let k = c.args.key.now in
    let key = g.E.Entry.keyed in
    let rank = g.E.Key.Key.ranks in
    let at = c.in_ok-at.at in
    let same = all_of_it key rank old n m table c.min-n.ensures in
    let found = found_in_front key rank old n m table c.min-n.ensures k k c.find.result refl c.find.ensures.found in
    taken_out key rank (lawful g.E.Key.Key.total) k old n table m at c.index-entries-at.result c.move_down.new.entries same (rw (told c.find.result at c.in_ok-at.ensures.value) at found) c.index-entries-at.is c.move_down.ensures

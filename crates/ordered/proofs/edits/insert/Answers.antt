use Rattle.std.proofs.Common.{Ok, Err, arith}
use Rattle.ordered.proofs.Fronts.{all_of_it, found_in_front}
use Rattle.ordered.proofs.Insertions.{replaced, added}
use Rattle.ordered.specs.Orders.{lawful}
use Rattle.ordered.proofs.edits.insert.Goals as goal

pub returns-in-Ok-clause-inserted : goal.returns-in-Ok-clause-inserted
returns-in-Ok-clause-inserted g c = λ table.
    let key = g.E.Entry.keyed in
    let rank = g.E.Key.Key.ranks in
    let old = c.args.entries.now in
    let n = c.args.count.now in
    let e = c.args.entry in
    let found = found_in_front key rank old n c.min-n.result table c.min-n.ensures c.key.result.now (key e) (Ok c.in-Ok.at) c.key.ensures c.in-Ok.ensures.found in
    replaced key rank (lawful g.E.Key.Key.total) e old n table c.in-Ok.at c.index-entries-at.result found c.index-entries-at.is

pub returns-else-n-entries-clause-inserted : goal.returns-else-n-entries-clause-inserted
returns-else-n-entries-clause-inserted g c = λ table.
    let key = g.E.Entry.keyed in
    let rank = g.E.Key.Key.ranks in
    let old = c.args.entries.now in
    let n = c.args.count.now in
    let m = c.min-n.result in
    let e = c.args.entry in
    let same = all_of_it key rank old n m table c.min-n.ensures in
    let found = found_in_front key rank old n m table c.min-n.ensures c.key.result.now (key e) (Err c.in-Err.gap) c.key.ensures c.in-Err.ensures.found in
    added key rank (lawful g.E.Key.Key.total) e old n table m c.in-Err.gap c.move_up.new.entries same (omega arith) found c.move_up.ensures

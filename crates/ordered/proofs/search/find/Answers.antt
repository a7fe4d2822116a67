use Rattle.std.proofs.Common.{arith, rules}
use Rattle.std.proofs.lemmas.Fn.{always_returns_same}
use Rattle.std.proofs.lemmas.Grind.{common_steps}
use Rattle.ordered.proofs.Searches.{searched_alike}
use Rattle.ordered.specs.Orders.{lawful}
use Rattle.ordered.proofs.search.find.Goals as goal

-- the last two: what was searched is the table, and what came of it is the result
pub returns-clause-found : goal.returns-clause-found
returns-clause-found g c = λ sorted.
    let k = c.args.key.now in
    let rank = g.E.Key.Key.ranks in
    let facts = c.binary_search_by.ensures in
    let by_key = facts.position (λ e. rank (g.E.Entry.keyed e) k) (always_returns_same _ _ _ (λ a r f called. search rules)) in
    searched_alike g.E.Entry.keyed rank (lawful g.E.Key.Key.total) c.args.table.now k sorted _ c.binary_search_by.result _ facts.bound by_key (grind (arith, common_steps)) (grind (arith, common_steps))

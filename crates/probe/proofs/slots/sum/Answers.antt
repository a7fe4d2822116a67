use Rattle.std.proofs.Common.{ap, ◌∙◌, rules}
use Rattle.std.proofs.lemmas.Iterator.{YieldsList-from_slice}
use Rattle.std.proofs.lemmas.Iterator.Consumers.{fold_from_yields_List}
use Rattle.std.specs.List.{fold}
use Rattle.slot_map.specs.Maps.{table_of}
use Rattle.probe.proofs.Sums.{added, summed_pairs}
use Rattle.probe.proofs.slots.sum.Goals as goal

pub returns : goal.returns
returns c =
    let t = table_of c.args.map.now in
    fold_from_yields_List _ (added t) c.args.start c.fold.result c.fold.ensures.ran (YieldsList-from_slice c.as_chunks.result.0.now cc) (λ a x b q k. search rules)
    ∙ ap (fold (added t) c.args.start) c.as_chunks.ensures.front ∙ summed_pairs t c.args.slots.now c.args.start

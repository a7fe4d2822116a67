use Rattle.std.proofs.Common.{ap, ◌∙◌, arith, rules}
use Rattle.std.proofs.lemmas.Iterator.{YieldsList-from_range}
use Rattle.std.proofs.lemmas.Iterator.Consumers.{fold_from_yields_List}
use Rattle.std.proofs.lemmas.List.FromFn.{length-range_with_len}
use Rattle.std.specs.List.{range_with_len}
use Rattle.slot_map.specs.Maps.{table_of}
use Rattle.probe.specs.Found.{summed, repeated}
use Rattle.probe.proofs.Sums.{repeated_over}
use Rattle.probe.proofs.slots.sum_rounds.Goals as goal

pub returns : goal.returns
returns c =
    let t = table_of c.args.map.now in
    let slots = c.args.slots.now in
    fold_from_yields_List _ (λ s x. summed t s slots) 0 c.fold.result c.fold.ensures.ran (YieldsList-from_range 0 c.args.rounds c.args.rounds (cc) (omega arith)) (λ a x b q k. search rules)
    ∙ repeated_over t slots (range_with_len 0 c.args.rounds) 0 ∙ ap (λ n. repeated t slots n 0) (length-range_with_len 0 c.args.rounds)

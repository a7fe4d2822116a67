use Rattle.std.proofs.Common.{rules, ◌∙◌, ◌&&◌, true}
use Rattle.std.proofs.lemmas.Iterator.{YieldsList-from_slice}
use Rattle.std.proofs.lemmas.Iterator.Consumers.{fold_from_yields_List}
use Rattle.resp.specs.Line.{above}
use Rattle.resp.proofs.Lines.{folded_all}
use Rattle.resp.proofs.line.is_quiet.Goals as goal

pub returns : goal.returns
returns g c =
    fold_from_yields_List _ (λ quiet b. quiet && above b) true c.fold.result c.fold.ensures.ran (YieldsList-from_slice c.args.block.now cc) (λ a x b q k. search rules)
    ∙ folded_all c.args.block.now true

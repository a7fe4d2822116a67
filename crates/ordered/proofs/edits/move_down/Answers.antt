use Rattle.std.proofs.Common.{◌+◌, get_or, set, ap, ◌∙◌, arith}
use Rattle.ordered.proofs.Moves.{down_none, down_more}
use Rattle.ordered.proofs.edits.move_down.Goals as goal

pub loop-i-init : goal.loop-i-init
loop-i-init g c = down_none c.args.entries.now c.args.at

pub loop-i-preserved : goal.loop-i-preserved
loop-i-preserved g c =
    let i = c.loop-i.i in
    let x = c.index-entries-i.result in
    ap (λ ys. set ys i x) c.loop-i.invariant ∙ down_more c.args.entries.now i c.args.end x c.args.at (omega arith) (omega arith) (omega arith) (c.index-entries-i.is ∙ ap (λ ys. get_or ys (i + 1) x) c.loop-i.invariant)

use Rattle.std.proofs.Common.{◌≡◌, ◌+◌, ◌-◌, get_or, set, ap, ◌∙◌, arith}
use Rattle.ordered.specs.Moves.{moved_up}
use Rattle.ordered.proofs.Moves.{up_none, up_more}
use Rattle.ordered.proofs.edits.move_up.Goals as goal

pub loop-i-init : goal.loop-i-init
loop-i-init g c = (omega arith, up_none c.args.entries.now c.args.end)

pub loop-i-preserved : goal.loop-i-preserved
loop-i-preserved g c =
    let i = c.loop-i.i - 1 in
    let x = c.index-entries-i.result in
    let next : c.loop-i.i ≡ i + 1 = omega arith in
    let held : c.loop-i.entries ≡ moved_up (i + 1) c.args.end c.args.entries.now = c.loop-i.invariant.1 ∙ ap (λ n. moved_up n c.args.end c.args.entries.now) next in
    (omega arith, ap (λ ys. set ys (i + 1) x) held ∙ up_more c.args.entries.now i c.args.end x (omega arith) (omega arith) (c.index-entries-i.is ∙ ap (λ ys. get_or ys i x) held))

pub returns : goal.returns
returns g c =
    let last : c.loop-i.i ≡ c.args.at = omega arith in
    c.loop-i.invariant.1 ∙ ap (λ n. moved_up n c.args.end c.args.entries.now) last

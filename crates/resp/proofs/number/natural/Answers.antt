use Rattle.std.proofs.Common.{◌^◌, sym, ap, ◌∙◌}
use Rattle.resp.specs.Number.{below}
use Rattle.resp.proofs.Numbers.{digit_refused, natural_some}
use Rattle.resp.proofs.number.natural.Goals as goal

pub returns-in_err-n : goal.returns-in_err-n
returns-in_err-n c =
    let cs = c.args.text.now in
    let gone = digit_refused (2 ^ 64) c.loop-c.n cs c.loop-c.c-index c.loop-c-test.true (sym c.in_err-n.ensures) in
    c.from_residual.ensures ∙ sym gone ∙ c.loop-c.invariant.2 ∙ ap (below (2 ^ 64)) (sym (natural_some cs c.loop-c.invariant.0))

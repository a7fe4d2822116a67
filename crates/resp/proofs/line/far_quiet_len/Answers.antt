use Rattle.std.proofs.Common.{◌≤◌, subst, arith}
use Rattle.std.proofs.lemmas.List.{take_rest}
use Rattle.resp.specs.Line.{plain}
use Rattle.resp.proofs.Lines.{plain_past}
use Rattle.resp.proofs.line.far_quiet_len.Goals as goal

pub returns-clause-quiet : goal.returns-clause-quiet
returns-clause-quiet c =
    let bs = c.args.bytes.now in
    let wide = c.quiet_len-wide in
    let behind = subst (λ l. c.quiet_len.result ≤ plain l) (take_rest bs wide.result) c.quiet_len.ensures.quiet in
    omega (arith, plain_past wide.result bs wide.ensures.quiet, behind)

use Rattle.std.proofs.Common.{◌≡◌, ◌++◌, ap, arith, rules}
use Rattle.resp.specs.Line.{plain}
use Rattle.resp.proofs.Lines.{plain_take, quiet_then}
use Rattle.resp.proofs.line.text_quiet_len.Goals as goal

pub returns-then-quiet-lt-NEAR-clause-quiet : goal.returns-then-quiet-lt-NEAR-clause-quiet
returns-then-quiet-lt-NEAR-clause-quiet c = omega (arith, c.quiet_len-quiet.ensures.quiet, plain_take c.min.result c.args.bytes.now, ap plain c.split_at.ensures.front)

pub returns-clause-quiet : goal.returns-clause-quiet
returns-clause-quiet c =
    let split : c.split_at.result.0.now ++ c.split_at.result.1.now ≡ c.args.bytes.now = search rules in
    rw (← split) (quiet_then c.split_at.result.0.now c.split_at.result.1.now c.quiet_len-quiet.result c.far_quiet_len.result (omega arith) c.quiet_len-quiet.ensures.quiet c.far_quiet_len.ensures.quiet)

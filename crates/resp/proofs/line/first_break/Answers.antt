use Rattle.std.proofs.Common.{◌≡◌, ◌++◌, rules}
use Rattle.resp.proofs.Lines.{break_near, break_far, no_break}
use Rattle.resp.proofs.line.first_break.Goals as goal

pub returns-in-Some : goal.returns-in-Some
returns-in-Some c =
    let split : c.split_at.result.0.now ++ c.split_at.result.1.now ≡ c.args.bytes.now = search rules in
    rw (← split) (break_near c.split_at.result.0.now c.split_at.result.1.now c.in-Some.n c.in-Some.ensures)

pub returns-in_err-far_break : goal.returns-in_err-far_break
returns-in_err-far_break c =
    let split : c.split_at.result.0.now ++ c.split_at.result.1.now ≡ c.args.bytes.now = search rules in
    rw (c.from_residual.ensures, ← split) (no_break c.split_at.result.0.now c.split_at.result.1.now c.in_default.ensures c.in_err-far_break.ensures)

pub returns : goal.returns
returns c =
    let split : c.split_at.result.0.now ++ c.split_at.result.1.now ≡ c.args.bytes.now = search rules in
    rw (← split) (break_far c.split_at.result.0.now c.split_at.result.1.now c.in_default.ensures _ c.in_ok-far_break.ensures)

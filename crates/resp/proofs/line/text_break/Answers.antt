use Rattle.std.proofs.Common.{Some, None, subst}
use Rattle.std.proofs.lemmas.List.{take_rest}
use Rattle.resp.specs.Line.{FirstBreak}
use Rattle.resp.proofs.Lines.{break_past, no_break_past}
use Rattle.resp.proofs.line.text_break.Goals as goal

pub returns-in_err-first_break : goal.returns-in_err-first_break
returns-in_err-first_break c =
    let bs = c.args.bytes.now in
    let quiet = c.text_quiet_len-quiet in
    rw c.from_residual.ensures (no_break_past quiet.result bs quiet.ensures.within quiet.ensures.quiet (subst (λ l. FirstBreak l None) (take_rest bs quiet.result) c.in_err-first_break.ensures))

pub returns : goal.returns
returns c =
    let bs = c.args.bytes.now in
    let quiet = c.text_quiet_len-quiet in
    let k = c.in_ok-first_break.field-0 in
    break_past quiet.result bs k quiet.ensures.quiet (subst (λ l. FirstBreak l (Some k)) (take_rest bs quiet.result) c.in_ok-first_break.ensures)

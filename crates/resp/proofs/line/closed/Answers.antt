use Rattle.std.proofs.Common.{◌∙◌, ap}
use Rattle.std.proofs.lemmas.List.{take_rest}
use Rattle.resp.specs.Line.{ended}
use Rattle.resp.proofs.Lines.{line_cut}
use Rattle.resp.proofs.line.closed.Goals as goal

pub returns-clause-value : goal.returns-clause-value
returns-clause-value c =
    let bs = c.args.bytes.now in
    let n = c.args.n in
    rw c.then_some.ensures (line_cut bs n c.requires.1 c.is_ended.result (c.is_ended.ensures ∙ ap ended (take_rest bs n)))

use Rattle.resp.proofs.Lines.{break_by}
use Rattle.resp.proofs.line.far_break.Goals as goal

pub returns : goal.returns
returns c = break_by c.args.bytes.now c.memchr2.result c.memchr2.ensures

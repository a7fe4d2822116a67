use Rattle.resp.proofs.Framed.{commanded, told_short}
use Rattle.resp.proofs.command.read.Goals as goal

pub returns-clause-stands : goal.returns-clause-stands
returns-clause-stands c = commanded c.args.bytes.now c.words.result (told_short c.args.bytes.now c.words.result c.if-bytes-gt-LONGEST.false c.words.ensures)

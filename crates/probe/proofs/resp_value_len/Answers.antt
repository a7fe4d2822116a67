use Rattle.std.proofs.Common.{rules}
use Rattle.probe.proofs.Lengths.{no_value}
use Rattle.probe.proofs.resp_value_len.Goals as goal

pub returns-clause-absent : goal.returns-clause-absent
returns-clause-absent c = no_value c.args.depth c.args.bytes.now c.map_or.result _ c.read.result c.read.ensures.value c.read.ensures.stands c.map_or.ensures (λ w h. search rules)

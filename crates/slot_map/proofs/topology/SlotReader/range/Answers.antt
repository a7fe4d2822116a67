use Rattle.std.proofs.Common.{sym}
use Rattle.slot_map.specs.Answer.{nodes, range}
use Rattle.slot_map.proofs.Ranges.{ranged}
use Rattle.slot_map.proofs.topology.SlotReader.range.Goals as goal

pub returns-in-Some : goal.returns-in-Some
returns-in-Some c v rest stand =
    let a = c.args.self.answering.now in
    let b = c.in-Some.bounds in
    let heads = c.in-Some.ensures v rest stand in
    ranged b.start b.end (nodes a heads.values) (range a v) (heads.is a) c.nodes.result (c.nodes.ensures heads.values rest heads.come)

pub returns-in-None : goal.returns-in-None
returns-in-None c v rest stand = sym (c.in-None.ensures v rest stand c.args.self.answering.now)

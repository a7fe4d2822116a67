use Rattle.std.proofs.Common.{ℕ, List}
use Rattle.resp.specs.Value.{Values}
use Rattle.slot_map.specs.Elements.{Come}
use Rattle.slot_map.proofs.Served.{Sofar}
use Rattle.slot_map.proofs.topology.SlotReader.nodes.Given as goal

abbrev pub invariant-loop-node : goal.invariant-loop-node
invariant-loop-node l =
    (goal.iterator-loop-node).can_next l.node-iterator × (goal.iterator-loop-node).is_finite l.node-iterator
    × ((vs : Values) (behind : List ℕ) → Come 6 l.fn.nodes vs behind → Sofar l.self.answering.now l.bounds.start l.bounds.end l.node-iterator l.range vs behind)

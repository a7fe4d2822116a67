use Rattle.std.proofs.Common.{ℕ, List}
use Rattle.resp.specs.Value.{Value}
use Rattle.slot_map.specs.Front.{Begins}
use Rattle.slot_map.proofs.Gathered.{Sofar}
use Rattle.slot_map.proofs.topology.SlotReader.ranges.Given as goal

abbrev pub invariant-loop-item : goal.invariant-loop-item
invariant-loop-item l =
    (goal.iterator-loop-item).can_next l.item-iterator × (goal.iterator-loop-item).is_finite l.item-iterator
    × ((v : Value) (behind : List ℕ) → Begins 8 l.answer v behind → Sofar l.self.answering.now l.listed l.item-iterator l.slots v behind)

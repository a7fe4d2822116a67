use Rattle.std.proofs.Common.{rules}
use Rattle.slot_map.specs.Front.{Begins}
use Rattle.slot_map.proofs.topology.SlotReader.host.Goals as goal

pub returns-in_err-place : goal.returns-in_err-place
unfolding Begins
returns-in_err-place c = search rules

pub returns-in-Bulk : goal.returns-in-Bulk
unfolding Begins
returns-in-Bulk c = search rules

pub returns-in-Nil : goal.returns-in-Nil
unfolding Begins
returns-in-Nil c = search rules

pub returns-in_default : goal.returns-in_default
unfolding Begins
returns-in_default c = search rules

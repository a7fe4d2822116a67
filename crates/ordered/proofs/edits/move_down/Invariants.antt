use Rattle.std.proofs.Common.{◌≡◌}
use Rattle.ordered.specs.Moves.{moved_down}
use Rattle.ordered.proofs.edits.move_down.Given as goal

abbrev pub invariant-loop-i : goal.invariant-loop-i
invariant-loop-i g l = l.entries ≡ moved_down l.at l.i l.initial.entries

use Rattle.std.proofs.Common.{◌≡◌, ◌≤◌}
use Rattle.ordered.specs.Moves.{moved_up}
use Rattle.ordered.proofs.edits.move_up.Given as goal

abbrev pub invariant-loop-i : goal.invariant-loop-i
invariant-loop-i g l = (l.at ≤ l.i) × (l.entries ≡ moved_up l.i l.end l.initial.entries)

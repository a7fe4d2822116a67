use Rattle.std.proofs.Common.{◌≡◌, ◌++◌, map, take}
use Rattle.report.specs.Ranges.{range_lines}
use Rattle.report.proofs.ranges.add_lines.Given as goal
use Rattle.slot_map.specs.Range.{range_of}

abbrev pub invariant-loop-range : goal.invariant-loop-range
invariant-loop-range l = l.out.items ≡ l.initial.out.items ++ range_lines (map range_of (take l.range-index l.ranges))

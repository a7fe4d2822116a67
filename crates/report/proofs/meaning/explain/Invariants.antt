use Rattle.std.proofs.Common.{◌≡◌, ◌+◌, ◌-◌, ◌≤◌, ◌++◌, length, string_bytes}
use Rattle.report.specs.Explained.{lines, explained}
use Rattle.report.proofs.meaning.explain.Given as goal

-- the lines that are left, behind those that are written, are the whole
abbrev pub invariant-loop-rest : goal.invariant-loop-rest
invariant-loop-rest l = record {
  few : l.index + length l.rest ≤ length l.tape;
  so_far : string_bytes l.lines ++ lines (length l.tape - l.index) (l.index + 1) l.rest ≡ explained l.tape;
}

abbrev pub decreases-loop-rest : goal.decreases-loop-rest
decreases-loop-rest l = length l.rest

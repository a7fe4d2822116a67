use Rattle.std.proofs.Common.{◌≡◌, ◌*◌, ◌≤◌, take}
use Rattle.report.specs.Shown.{all_shown}
use Rattle.report.proofs.show.show_part.Given as goal

abbrev pub invariant-loop-b : goal.invariant-loop-b
invariant-loop-b l = record {
  within : l.len ≤ 3 * l.b-index;
  so_far : take l.len l.room ≡ all_shown (take l.b-index l.part);
}

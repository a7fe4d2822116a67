use Rattle.std.proofs.Common.{◌≡◌, ◌∷◌, ◌++◌, decimal}
use Rattle.report.specs.Ranges.{node_word, range_line}
use Rattle.report.specs.Shown.{all_shown}
use Rattle.report.proofs.ranges.RangeLineDisplay.fmt.Goals as goal
use Rattle.slot_map.specs.Range.{range_of}

pub returns-clause-writes : goal.returns-clause-writes
unfolding range_line
returns-clause-writes g c =
    let range = range_of c.args.self.now.0.now in
    let address = c.from-primary.result in
    let primary : all_shown address.host.now ++ (58 ∷ decimal address.port) ≡ node_word range.primary = cc c.from-primary.ensures in
    rw (← c.start-start.ensures, ← c.end-end.ensures, ← primary, ← c.replicas.ensures) c.write.ensures.writes

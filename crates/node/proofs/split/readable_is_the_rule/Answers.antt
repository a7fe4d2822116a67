use Rattle.node.proofs.Readings.{readings}
use Rattle.node.proofs.split.readable_is_the_rule.Goals as goal

pub returns : goal.returns
returns c = readings

use Rattle.std.proofs.Common.{arith}
use Rattle.ordered.proofs.Tables.{taken_out}
use Rattle.ordered.proofs.table.Table.remove.Goals as goal

pub returns : goal.returns
returns g c =
    let table = c.args.self.now in
    taken_out c.args.key.now table _ c.remove.result (omega arith) (c.remove.ensures.removed (omega arith, table.ascends))

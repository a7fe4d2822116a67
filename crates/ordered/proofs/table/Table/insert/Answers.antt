use Rattle.std.proofs.Common.{arith}
use Rattle.ordered.proofs.Tables.{put_in}
use Rattle.ordered.proofs.table.Table.insert.Goals as goal

pub returns : goal.returns
returns g c =
    let table = c.args.self.now in
    put_in c.args.entry table _ c.insert.result (omega arith) (c.insert.ensures.inserted (omega arith, table.ascends))

use Rattle.std.proofs.Common.{arith}
use Rattle.resp.proofs.Writings.{array_back}
use Rattle.resp.proofs.write.array.Goals as goal

pub returns-clause-back : goal.returns-clause-back
returns-clause-back c = array_back c.args.count (omega arith)

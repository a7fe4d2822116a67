use Rattle.std.proofs.Common.{arith}
use Rattle.resp.proofs.Writings.{bulk_back}
use Rattle.resp.proofs.write.bulk_string.Goals as goal

pub returns-clause-back : goal.returns-clause-back
returns-clause-back c = bulk_back c.args.text.now (omega arith)

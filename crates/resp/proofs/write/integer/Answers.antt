use Rattle.resp.proofs.Writings.{integer_back}
use Rattle.resp.proofs.write.integer.Goals as goal

pub returns-clause-back : goal.returns-clause-back
returns-clause-back c = integer_back c.args.z c.ranges.z.sfits

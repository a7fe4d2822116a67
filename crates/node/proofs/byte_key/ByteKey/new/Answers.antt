use Rattle.std.proofs.Common.{arith}
use Rattle.node.proofs.Paddings.{written_padded}
use Rattle.node.proofs.byte_key.ByteKey.new.Goals as goal

pub invariant_of-result : goal.invariant_of-result
invariant_of-result c =
    record { formed = written_padded c.args.bytes.now c.copy_from_slice.new.self c.copy_from_slice.ensures.after (omega arith) }

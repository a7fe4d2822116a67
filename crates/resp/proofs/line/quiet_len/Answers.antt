use Rattle.std.proofs.Common.{◌/◌, length, rules}
use Rattle.resp.proofs.Lines.{quiet_within}
use Rattle.resp.proofs.line.quiet_len.Goals as goal

pub returns-clause-quiet : goal.returns-clause-quiet
returns-clause-quiet g c =
    let bs = c.args.bytes.now in
    let n = g.row.N in
    rw c.unwrap_or.ensures (quiet_within n (length bs / n) bs c.as_chunks.result.0.now c.loud_block.result (search rules) c.as_chunks.ensures.front c.as_chunks.ensures.front_len c.loud_block.ensures)

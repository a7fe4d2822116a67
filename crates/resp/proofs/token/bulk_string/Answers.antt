use Rattle.std.proofs.Common.{arith}
use Rattle.resp.proofs.Tokens.{bulk_told, bulk_fits}
use Rattle.resp.proofs.token.bulk_string.Goals as goal

pub returns : goal.returns
returns c =
    let told = c.in_ok-size.ensures in
    (omega (arith, bulk_fits c.args.rest.now c.in_ok-size.size told.value c.in-Some.n c.in-Some.is c.if-not-is_ended.ensures), bulk_told c.args.rest.now c.in_ok-size.size told.value c.in-Some.n c.in-Some.is c.if-not-is_ended.ensures)

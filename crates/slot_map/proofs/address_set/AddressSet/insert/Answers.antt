use Rattle.std.proofs.Common.{arith, rules}
use Rattle.std.proofs.lemmas.Result.{err_from_is_err_and}
use Rattle.node.specs.Ranks.{address_rank}
use Rattle.ordered.specs.Tables.{table_of, Put}
use Rattle.slot_map.proofs.Insertions.{refused}
use Rattle.slot_map.proofs.Tables.{length_put_absent}
use Rattle.slot_map.proofs.address_set.AddressSet.insert.Goals as goal

pub returns-in_err-map_err : goal.returns-in_err-map_err
returns-in_err-map_err c =
    let a = c.args.address in
    let old = c.args.self.now.addresses in
    let p = err_from_is_err_and c.from_residual.result c.from_residual.ensures.1 in
    let full = refused (Put a old c.insert.new.self) _ c.insert.result c.map_err.result c.in_err-map_err.field-0.0 c.in_err-map_err.was c.insert.ensures c.map_err.ensures.cases in
    rw (p.1, p.2) (search rules, omega (arith, full.1.0, length_put_absent (λ b. b) address_rank a (table_of old) full.1.1))

use Rattle.std.proofs.Common.{None, length}
use Rattle.std.proofs.lemmas.Bool.{le-ltb}
use Rattle.errors.specs.Endings.{error_ending}
use Rattle.errors.proofs.Ends.{walk_told}
use Rattle.errors.proofs.ending.walk.Goals as goal

pub returns-clause-ending : goal.returns-clause-ending
returns-clause-ending c =
    let bs = c.args.bytes.now in
    rw (c.ok_or.ensures.value, le-ltb c.args.lent (length bs) c.if-bytes-lent.false) (walk_told error_ending (λ e. e) bs c.whole.result c.whole.ensures.value)

pub returns-clause-error : goal.returns-clause-error
returns-clause-error c =
    let bs = c.args.bytes.now in
    rw (c.ok_or.ensures.value, le-ltb c.args.lent (length bs) c.if-bytes-lent.false) (walk_told (λ t. t) (λ e. None) bs c.whole.result c.whole.ensures.value)

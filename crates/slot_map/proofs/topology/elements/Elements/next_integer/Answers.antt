use Rattle.std.proofs.Common.{sym, ap, ◌∙◌, w64, rules}
use Rattle.std.proofs.lemmas.Int.{to_z-of_z}
use Rattle.resp.specs.Value.{more}
use Rattle.slot_map.specs.Elements.{leading}
use Rattle.slot_map.proofs.Elements.{no_more, turn_ok}
use Rattle.slot_map.proofs.topology.elements.Elements.next_integer.Goals as goal

pub returns-in_err-next : goal.returns-in_err-next
returns-in_err-next c d vs rest come =
    rw c.from_residual.ensures (ap leading (sym (no_more come c.next.new.self c.in_err-next.ensures.steps)))

pub returns-in_err-z : goal.returns-in_err-z
returns-in_err-z c d vs rest come =
    let next = turn_ok come c.next.new.self c.in_ok-next.field-0 c.in_ok-next.ensures.steps c.in_ok-ok.field-0 c.in_ok-ok.ensures.value in
    rw c.from_residual-in_err-z.ensures (ap leading next.is ∙ c.in_err-z.ensures d next.first next.rest next.here)

pub returns : goal.returns
returns c d vs rest come =
    let next = turn_ok come c.next.new.self c.in_ok-next.field-0 c.in_ok-next.ensures.steps c.in_ok-ok.field-0 c.in_ok-ok.ensures.value in
    let here = c.in_ok-z.ensures d next.first next.rest next.here in
    rw (to_z-of_z w64 c.in_ok-z.z (search rules)) (record {
      others = next.others;
      is = next.is ∙ ap (λ v. more v next.others) here.0;
      come = record { deep = next.come.deep; front = next.rest; onward = here.1; follow = next.follow };
    })

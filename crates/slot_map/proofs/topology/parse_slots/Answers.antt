use Rattle.std.proofs.Common.{sym, ap, ◌∙◌, subst}
use Rattle.std.proofs.lemmas.Result.{err_from_is_err_and}
use Rattle.slot_map.specs.Answer.{ranges}
use Rattle.slot_map.specs.Table.{slots_of}
use Rattle.slot_map.proofs.Answered.{Passed, passed, refused_as, not_listable, is_limited}
use Rattle.slot_map.proofs.topology.parse_slots.Goals as goal

pub returns-in_err-ok_or : goal.returns-in_err-ok_or
returns-in_err-ok_or c =
    let a = c.args.answering.now in
    let bs = c.args.answer.now in
    let told = passed a bs c.whole.result c.whole.ensures.value in
    let refused = c.in_err-ok_or.ensures in
    let p = err_from_is_err_and c.from_residual.result c.from_residual.ensures.1 in
    rw (p.1, p.2, refused_as c.whole.result _ _ refused.value) (subst (Passed a bs) refused.ok_part told)

pub returns-in_err-slots : goal.returns-in_err-slots
returns-in_err-slots c =
    let a = c.args.answering.now in
    let bs = c.args.answer.now in
    let x = subst (Passed a bs) c.in_ok-ok_or.ensures.ok_part (passed a bs c.whole.result c.whole.ensures.value) in
    let refused = c.in_err-slots.ensures x.answer x.rest x.begins in
    let p = err_from_is_err_and c.from_residual-in_err-slots.result c.from_residual-in_err-slots.ensures.1 in
    rw (p.1, p.2, refused.0) (not_listable (ranges a x.answer) refused.1 ∙ sym (ap (slots_of a) x.alone_is))

pub returns : goal.returns
returns c =
    let a = c.args.answering.now in
    let bs = c.args.answer.now in
    let x = subst (Passed a bs) c.in_ok-ok_or.ensures.ok_part (passed a bs c.whole.result c.whole.ensures.value) in
    let gathered = c.in_ok-slots.ensures x.answer x.rest x.begins in
    is_limited (ranges a x.answer) c.in_ok-slots.slots gathered.0 gathered.1 c.from_slots.result c.from_slots.ensures ∙ sym (ap (slots_of a) x.alone_is)

use Rattle.std.proofs.Common.{subst, sym}
use Rattle.std.proofs.lemmas.Result.{err_from_is_err_and}
use Rattle.slot_map.specs.Elements.{Stand}
use Rattle.slot_map.proofs.Elements.{never_as}
use Rattle.slot_map.proofs.Gathered.{begins, here, stops, too_much_here, too_many_here, goes_on, ends}
use Rattle.slot_map.proofs.topology.SlotReader.ranges.Goals as goal

pub loop-item-init : goal.loop-item-init
loop-item-init c = (
  tt,
  tt,
  λ v behind b.
      begins c.args.self.answering.now c.into_iter-item-iterator.result c.new-slots.result v behind c.new-slots.ensures
      (subst (λ es. Stand 7 es behind v) (sym c.into_iter-item-iterator.ensures.into_iter_gives) (c.in-Some.ensures v behind b)),
)

pub returns-in_err-item : goal.returns-in_err-item
returns-in_err-item c v behind b =
    let so_far = c.loop-item.invariant.2 v behind b in
    absurd (never_as so_far.come c.next.new.self c.in-Some-item.item c.in_err-item.was c.in-Some-item.ensures.steps)

pub returns-in_default-array : goal.returns-in_default-array
returns-in_default-array c v behind b =
    let so_far = c.loop-item.invariant.2 v behind b in
    let at_hand = here so_far c.next.new.self c.in_ok-item.was c.in-Some-item.ensures.steps in
    stops so_far c.next.new.self c.in_ok-item.was c.in-Some-item.ensures.steps (c.in_default-array.ensures at_hand.first at_hand.rest at_hand.here)

pub returns-in_err-range : goal.returns-in_err-range
returns-in_err-range c v behind b =
    let so_far = c.loop-item.invariant.2 v behind b in
    let at_hand = here so_far c.next.new.self c.in_ok-item.was c.in-Some-item.ensures.steps in
    let stand = c.in-Some-array.ensures at_hand.first at_hand.rest at_hand.here in
    let refused = c.in_err-range.ensures at_hand.first at_hand.rest stand in
    let p = err_from_is_err_and c.from_residual-in_err-range.result c.from_residual-in_err-range.ensures.1 in
    rw (p.1, p.2) (refused.0, too_much_here so_far c.next.new.self c.in_ok-item.was c.in-Some-item.ensures.steps stand refused.1)

pub returns-in_err-listed : goal.returns-in_err-listed
returns-in_err-listed c v behind b =
    let so_far = c.loop-item.invariant.2 v behind b in
    let at_hand = here so_far c.next.new.self c.in_ok-item.was c.in-Some-item.ensures.steps in
    let stand = c.in-Some-array.ensures at_hand.first at_hand.rest at_hand.here in
    let refused = c.in_err-listed.ensures so_far.before so_far.lists in
    let p = err_from_is_err_and c.from_residual-in_err-listed.result c.from_residual-in_err-listed.ensures.1 in
    rw (p.1, p.2) (refused.0, too_many_here so_far c.next.new.self c.in_ok-item.was c.in-Some-item.ensures.steps stand c.in_ok-range.range (c.in_ok-range.ensures at_hand.first at_hand.rest stand) refused.1)

pub loop-item-preserved : goal.loop-item-preserved
loop-item-preserved c = (
  tt,
  tt,
  λ v behind b.
      let so_far = c.loop-item.invariant.2 v behind b in
      let at_hand = here so_far c.next.new.self c.in_ok-item.was c.in-Some-item.ensures.steps in
      let stand = c.in-Some-array.ensures at_hand.first at_hand.rest at_hand.here in
      goes_on so_far c.next.new.self c.in_ok-item.was c.in-Some-item.ensures.steps stand c.in_ok-range.range (c.in_ok-range.ensures at_hand.first at_hand.rest stand) c.list.new.slots c.in_ok-listed.listed (c.in_ok-listed.ensures so_far.before so_far.lists),
)

pub returns : goal.returns
returns c v behind b = ends (c.loop-item.invariant.2 v behind b) c.next.new.self c.in-None.ensures.steps

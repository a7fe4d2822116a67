use Rattle.std.proofs.Common.{subst, sym}
use Rattle.std.proofs.lemmas.Result.{err_from_is_err_and}
use Rattle.slot_map.specs.Elements.{Come}
use Rattle.slot_map.proofs.Elements.{never_as}
use Rattle.slot_map.proofs.Served.{begins, here, too_many, goes_on, ends}
use Rattle.slot_map.proofs.topology.SlotReader.nodes.Goals as goal

pub loop-node-init : goal.loop-node-init
loop-node-init c = (
  tt,
  tt,
  λ vs behind come.
      begins c.args.self.answering.now c.args.bounds.start c.args.bounds.end c.into_iter-node-iterator.result vs behind (subst (λ es. Come 6 es vs behind) (sym c.into_iter-node-iterator.ensures.into_iter_gives) come),
)

pub returns-in_err-node : goal.returns-in_err-node
returns-in_err-node c vs behind come =
    let so_far = c.loop-node.invariant.2 vs behind come in
    absurd (never_as so_far.come c.next.new.self c.in-Some.node c.in_err-node.was c.in-Some.ensures.steps)

pub returns-in_err-range : goal.returns-in_err-range
returns-in_err-range c vs behind come =
    let so_far = c.loop-node.invariant.2 vs behind come in
    let at_hand = here so_far c.next.new.self c.in_ok-node.was c.in-Some.ensures.steps in
    let refused = c.in_err-range.ensures so_far.before so_far.told in
    let p = err_from_is_err_and c.from_residual-in_err-range.result c.from_residual-in_err-range.ensures.1 in
    rw (p.1, p.2) (refused.0, too_many so_far c.next.new.self c.in_ok-node.was c.in-Some.ensures.steps c.node.result (c.node.ensures at_hand.first at_hand.rest at_hand.here) refused.1)

pub loop-node-preserved : goal.loop-node-preserved
loop-node-preserved c = (
  tt,
  tt,
  λ vs behind come.
      let so_far = c.loop-node.invariant.2 vs behind come in
      let at_hand = here so_far c.next.new.self c.in_ok-node.was c.in-Some.ensures.steps in
      goes_on so_far c.next.new.self c.in_ok-node.was c.in-Some.ensures.steps c.node.result (c.node.ensures at_hand.first at_hand.rest at_hand.here) c.in_ok-range.range (c.in_ok-range.ensures so_far.before so_far.told),
)

pub returns : goal.returns
returns c vs behind come = ends (c.loop-node.invariant.2 vs behind come) c.next.new.self c.in-None.ensures.steps

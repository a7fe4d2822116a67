use Rattle.std.proofs.Common.{◌≡◌, ◌^◌, ◌-◌, length, ap, ◌∙◌, subst, arith, rules}
use Rattle.std.proofs.lemmas.List.{length-drop, take_rest}
use Rattle.resp.specs.Reading.{value}
use Rattle.resp.specs.Told.{seen, moved, Errs, Inside}
use Rattle.resp.specs.Value.{or_else}
use Rattle.resp.proofs.Walks.{quiet_told, array_told, turn_more, turn_stops, errs_more, or_moved}
use Rattle.resp.proofs.value.+walk.Goals as goal

pub loop-i-init : goal.loop-i-init
loop-i-init t c =
    let found = c.in_ok-token.ensures in
    (omega arith, tt, array_told c.args.depth c.args.bytes.now c.in_ok-token.token found.value c.in-Array.count c.in_ok-nested-in-Array.nested (omega arith) c.in-Array.is)

pub returns-in_err-next-in-Array-clause-value : goal.returns-in_err-next-in-Array-clause-value
returns-in_err-next-in-Array-clause-value t c =
    rw c.from_residual-in_err-next-in-Array.ensures
    (turn_stops (value c.in_ok-nested-in-Array.nested) c.in-Array.count c.loop-i._i c.loop-i-test.true c.args.bytes.now c.loop-i.len c.loop-i.error _ c.loop-i.invariant.2 c.in_err-next-in-Array.ensures.value)

pub loop-i-preserved : goal.loop-i-preserved
loop-i-preserved t c =
    let bs = c.args.bytes.now in
    let len = c.loop-i.len in
    let next = c.in_ok-next-in-Array.next in
    let found = c.in_ok-next-in-Array.ensures in
    let left = ap length (take_rest bs len) ∙ length-drop len bs in
    let is : c.or-error.result ≡ or_else c.loop-i.error (moved len next.error) = or_moved _ len c.loop-i.error next.error c.map.result c.or-error.result c.map.ensures.cases c.or-error.ensures (λ p q is h.
    let i = subst (Errs _) is found.within.1 in
    let f : Inside (2 ^ 64 - 1 - len) p = (i.0, omega (arith, left, i.1)) in
    search rules) in
    rw is (
      omega (arith, left, found.within.0),
      errs_more (length bs) len c.loop-i.error next.error c.loop-i.invariant.1 (subst (λ n. Errs n next.error) left found.within.1) (omega arith),
      turn_more (value c.in_ok-nested-in-Array.nested) c.in-Array.count c.loop-i._i c.loop-i-test.true bs len c.loop-i.error (seen (value c.args.depth bs)) c.loop-i.invariant.2 next found.value,
    )

pub returns-in-Simple : goal.returns-in-Simple
returns-in-Simple t c =
    let found = c.in_ok-token.ensures in
    record {
      within = (found.within.0, tt);
      value = quiet_told c.args.depth c.args.bytes.now c.in_ok-token.token found.value c.in-Simple.is;
    }

use Rattle.std.proofs.Common.{ℕ, List, [], Bor, length, refl, ap, arith}
use Rattle.std.specs.List.{flat_map}
use Rattle.std.proofs.lemmas.List.{take_all}
use Rattle.std.proofs.lemmas.List.Folds.{length-flat_map-take}
use Rattle.resp.proofs.Writings.{written_part}
use Rattle.resp.proofs.write.put.Goals as goal

pub returns-in_err-end : goal.returns-in_err-end
returns-in_err-end c =
    let all : Bor (List ℕ) → List ℕ = λ p. p.now in
    let none : Bor (List ℕ) = record { ref_ptr = (0, 0); now = [] } in
    let room = length-flat_map-take all c.args.parts.now c.loop-part.part-index none c.loop-part-test.true in
    rw c.from_residual.ensures (refl, omega (arith, room, c.in_err-end.ensures))

pub copy-to-requires : goal.copy-to-requires
copy-to-requires c =
    let all : Bor (List ℕ) → List ℕ = λ p. p.now in
    let none : Bor (List ℕ) = record { ref_ptr = (0, 0); now = [] } in
    let room = length-flat_map-take all c.args.parts.now c.loop-part-2.part-index none c.loop-part-2-test.true in
    let whole = ap (λ l. length (flat_map all l)) (take_all c.loop-part.part-index c.args.parts.now c.loop-part-test.false) in
    omega (arith, room, whole, c.loop-part.invariant, c.loop-part-2.invariant.0)

pub loop-part-2-preserved : goal.loop-part-2-preserved
loop-part-2-preserved c =
    written_part c.args.parts.now c.loop-part-2.part-index _ c.loop-part-2-test.true c.args.out.now c.loop-part-2.out c.copy-to.new.out c.args.at c.loop-part-2.to c.copy-to.result c.loop-part-2.invariant c.copy-to.ensures (omega arith)

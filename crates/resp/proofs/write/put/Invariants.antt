use Rattle.std.proofs.Common.{◌≡◌, ◌+◌, length, take, Some}
use Rattle.std.specs.List.{flat_map}
use Rattle.resp.specs.Writing.{Written}
use Rattle.resp.proofs.write.put.Given as goal

abbrev pub invariant-loop-part : goal.invariant-loop-part
invariant-loop-part l = l.end ≡ l.at + length (flat_map (λ p. p.now) (take l.part-index l.parts))

abbrev pub invariant-loop-part-2 : goal.invariant-loop-part-2
invariant-loop-part-2 l = Written (flat_map (λ p. p.now) (take l.part-index l.parts)) l.at l.initial.out l.out (Some l.to)

use Rattle.std.proofs.Common.{◌≡◌, ◌^◌, ◌<◌, length, drop}
use Rattle.resp.specs.Number.{digits, below}
use Rattle.resp.proofs.number.natural.Given as goal

abbrev pub invariant-loop-c : goal.invariant-loop-c
invariant-loop-c l = (0 < length l.text) × (l.n < 2 ^ 64) × (below (2 ^ 64) (digits l.n (drop l.c-index l.text)) ≡ below (2 ^ 64) (digits 0 l.text))

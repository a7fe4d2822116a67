use Rattle.std.proofs.Common.{drop}
use Rattle.resp.proofs.Commands.{Sofar}
use Rattle.resp.proofs.command.words.Given as goal

abbrev pub invariant-loop-word : goal.invariant-loop-word
invariant-loop-word l = Sofar l.bytes (drop l.token.len l.bytes) l.count l._word l.first l.rest

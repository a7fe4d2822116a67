use Rattle.std.proofs.Common.{◌≡◌, ◌+◌, ◌-◌, suc, length, ◌++◌, string_bytes, sym, ap, ◌∙◌, arith}
use Rattle.report.specs.Explained.{entry_line, lines, explained}
use Rattle.report.proofs.Lines.{line_written}
use Rattle.report.proofs.meaning.explain.Goals as goal

pub loop-rest-preserved : goal.loop-rest-preserved
loop-rest-preserved c =
    let bs = c.args.tape.now in
    let i = c.loop-rest.index in
    let n = length bs - (i + 1) in
    let line = c.front_line.result.0 in
    let rest = c.loop-rest.rest.now in
    let old = string_bytes c.loop-rest.lines in
    let fuel : length bs - i ≡ suc n = omega (arith, c.front_line.ensures.shorter) in
    let next : i + 1 + 1 ≡ suc (i + 1) = omega arith in
    let so_far = ap (λ k. old ++ lines k (i + 1) rest) (sym fuel) ∙ c.loop-rest.invariant.so_far in
    record {
      few = omega (arith, c.front_line.ensures.shorter);
      so_far = ap (λ k. string_bytes c.writeln.new.self ++ lines n k c.front_line.result.1.now) next
          ∙ line_written old (entry_line line.index line.kind line.bytes.now) (string_bytes c.writeln.new.self) (lines n (suc (i + 1)) c.front_line.result.1.now) (lines (suc n) (i + 1) rest) (explained bs)
          c.in_ok-writeln.ensures.bytes (c.front_line.ensures.line n) so_far;
    }

use Rattle.std.proofs.Common.{◌≡◌, rules, sym, ◌∙◌, arith}
use Rattle.std.specs.Str.{IsUtf8}
use Rattle.node.proofs.Ports.{no_text, parsed_port, too_many_digits}
use Rattle.node.proofs.port.port.Goals as goal

pub returns-in_err-text : goal.returns-in_err-text
returns-in_err-text c =
    let other : IsUtf8 c.args.digits.now → ⊥ = search rules in
    c.from_residual.ensures ∙ sym (no_text c.args.digits.now other)

pub returns : goal.returns
returns c =
    let text = c.in_ok-text.text.now in
    let same : text ≡ c.args.digits.now = search rules in
    c.ok-2.ensures.value ∙ parsed_port c.args.digits.now text c.parse.result (omega arith) same c.parse.ensures.value.0

pub returns-then-digits-gt-MOST_DIGITS : goal.returns-then-digits-gt-MOST_DIGITS
returns-then-digits-gt-MOST_DIGITS c = sym (too_many_digits c.args.digits.now c.if-digits-gt-MOST_DIGITS.true (omega arith))

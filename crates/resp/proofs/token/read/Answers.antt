use Rattle.std.proofs.Common.{refl, arith}
use Rattle.resp.specs.Value.{simple_string, simple_error}
use Rattle.resp.specs.declared.place.Head.TheVariants.{Simple, Error}
use Rattle.resp.proofs.Tokens.{all_told, text_told}
use Rattle.resp.proofs.token.read.Goals as goal

pub returns-in-43-clause-value : goal.returns-in-43-clause-value
returns-in-43-clause-value c = all_told c.args.bytes.now 43 c.text.result (omega arith) (omega arith) (text_told 43 simple_string Simple _ c.text.result c.text.ensures (λ l p. refl))

pub returns-in-45-clause-value : goal.returns-in-45-clause-value
returns-in-45-clause-value c = all_told c.args.bytes.now 45 c.text-in-45.result (omega arith) (omega arith) (text_told 45 simple_error Error _ c.text-in-45.result c.text-in-45.ensures (λ l p. refl))

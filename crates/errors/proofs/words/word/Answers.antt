use Rattle.std.proofs.Common.{length, ap, ◌∙◌}
use Rattle.std.specs.Option.{unwrap_or}
use Rattle.errors.proofs.Spans.{word_text, word_rest}
use Rattle.errors.proofs.words.word.Goals as goal

pub returns-clause-text : goal.returns-clause-text
returns-clause-text c =
    word_text c.args.bytes.now c.args.at c.unwrap_or.result c.trim_ascii_start-rest.result.now c.requires c.trim_ascii_start-rest.ensures.value
    (c.unwrap_or.ensures ∙ ap (λ o. unwrap_or o (length c.trim_ascii_start-rest.result.now)) c.white.ensures)

pub returns-clause-rest : goal.returns-clause-rest
returns-clause-rest c =
    word_rest c.args.bytes.now c.args.at c.unwrap_or.result c.trim_ascii_start-rest.result.now c.requires c.trim_ascii_start-rest.ensures.value
    (c.unwrap_or.ensures ∙ ap (λ o. unwrap_or o (length c.trim_ascii_start-rest.result.now)) c.white.ensures)

use Rattle.std.proofs.Common.{◌≡◌, ℕ, List, [], ◌∷◌, ◌++◌, Option, Some, None, codes, decimal, refl, ap, ◌∙◌, append-nil}
use Rattle.std.proofs.Output.{has_written_of_eq}
use Rattle.errors.specs.Endings.{refusal, retry}
use Rattle.errors.specs.Names.{ending_name, method_name}
use Rattle.errors.specs.declared.redis_error.RetryMethod.{RetryMethod}
use Rattle.report.specs.Explained.{kind_word, entry_ending, entry_error, code_word, method_word, redirect_word, entry_line}
use Rattle.report.specs.Words.{spaced, or_dash}
use Rattle.report.proofs.meaning.EntryLineDisplay.fmt.Goals as goal

joined : (a b c d e f c' d' e' f' : List ℕ) → c ≡ c' → d ≡ d' → e ≡ e' → f ≡ f' →
    codes "entry " ++ (a ++ (32 ∷ (b ++ (32 ∷ (c ++ (32 ∷ (d ++ (32 ∷ (e ++ (32 ∷ f)))))))))) ≡ codes "entry" ++ spaced (a ∷ b ∷ c' ∷ d' ∷ e' ∷ f' ∷ [])
joined a b c d e f c' d' e' f' same_c same_d same_e same_f = rw (same_c, same_d, same_e, same_f, append-nil f')

method_shown : (m : Option RetryMethod) → or_dash (λ x. Some (method_name x)) m ≡ Some (method_word m)
method_shown None = refl
method_shown (Some m) = refl

pub returns-clause-writes : goal.returns-clause-writes
unfolding entry_line
returns-clause-writes g c =
    let line = c.args.self.now in
    let ending = entry_ending line.kind line.bytes.now in
    let error = entry_error line.kind line.bytes.now in
    let is_ending = c.played-ending.ensures.ending in
    let is_error = c.played-ending.ensures.error in
    let method = method_shown c.retry_method.result ∙ ap (λ m. Some (method_word m)) c.retry_method.ensures in
    let written = rw (c.code-code.ensures, method, c.redirect-redirect.ensures) at c.write.ensures.writes in
    λ plain ok. has_written_of_eq _ _ _ _ _
    (joined (decimal line.index) (kind_word line.kind) _ _ _ _ (ending_name ending) (code_word error) (method_word (retry (refusal ending))) (redirect_word error)
    (ap ending_name is_ending) (ap code_word is_error) (ap (λ e. method_word (retry (refusal e))) is_ending) (ap redirect_word is_error))
    (written plain ok)

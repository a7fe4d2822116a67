-- Where a text's words lie.
use Rattle.std.proofs.Common.{◌≡◌, ℕ, ◌+◌, ◌-◌, ◌≤◌, List, length, take, drop, sym, ap, ◌∙◌, subst, arith, length-drop}
use Rattle.std.proofs.lemmas.List.{drop-drop, take_rest}
use Rattle.std.proofs.lemmas.Str.Ascii.{trim_ascii_start_is}
use Rattle.std.specs.Str.{IsTrimAsciiStart}
use Rattle.resp.specs.Told.{part}
use Rattle.errors.specs.Words.{white, until, unpadded, first_word, behind_word}

-- a word by the places where it begins and ends
module _ (bs : List ℕ) (at n : ℕ) (rest : List ℕ) (h : at ≤ length bs) (trimmed : IsTrimAsciiStart (take (length bs - at) (drop at bs)) rest) (long : n ≡ until white rest) where
  from : IsTrimAsciiStart (drop at bs) rest
  from = subst (λ l. IsTrimAsciiStart l rest) (take_rest bs at) trimmed

  is : rest ≡ unpadded (drop at bs)
  is = trim_ascii_start_is (drop at bs) rest from

  begins : drop (length bs - length rest) bs ≡ rest
  begins =
      let start : length bs - length rest ≡ at + from.0 = omega (arith, from.2, length-drop at bs) in
      ap (λ k. drop k bs) start ∙ sym (drop-drop from.0 at bs) ∙ sym from.1

  pub word_text : part bs (record { start = length bs - length rest; end = length bs - length rest + n }) ≡ first_word (drop at bs)
  word_text =
      let wide : length bs - length rest + n - (length bs - length rest) ≡ n = omega arith in
      ap (λ k. take k (drop (length bs - length rest) bs)) (wide ∙ long) ∙ ap (take (until white rest)) begins ∙ ap (λ r. take (until white r) r) is

  pub word_rest : drop (length bs - length rest + n) bs ≡ behind_word (drop at bs)
  word_rest = sym (drop-drop n (length bs - length rest) bs) ∙ ap (drop n) begins ∙ ap (λ k. drop k rest) long ∙ ap (λ r. drop (until white r) r) is

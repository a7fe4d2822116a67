-- How an error's text falls into words.
use Rattle.std.specs.Prelude.{ℕ, ◌+◌, Bool, List, length, take, drop, Option, ◌==◌}
use Rattle.std.specs.Char.{is_ascii_whitespace}
use Rattle.std.specs.List.{position, prefix_len}
use Rattle.std.specs.Option.{option_map, unwrap_or}

-- where the first byte stands that passes, or how many there are
abbrev pub until : (ℕ → Bool) → List ℕ → ℕ
until p bs = unwrap_or (position p bs) (length bs)

-- a server error's code is what stands before the first blank, and its detail all behind that one blank
abbrev pub code_text : List ℕ → List ℕ
code_text text = take (until (λ b. b == 32) text) text

abbrev pub detail_text : List ℕ → Option (List ℕ)
detail_text text = option_map (λ i. drop (i + 1) text) (position (λ b. b == 32) text)

-- blank, tab, LF, form feed and CR
abbrev pub white : ℕ → Bool
white = is_ascii_whitespace

-- the first word, and what stands behind it
abbrev pub unpadded : List ℕ → List ℕ
unpadded bs = drop (prefix_len white bs) bs

abbrev pub first_word : List ℕ → List ℕ
first_word bs = take (until white (unpadded bs)) (unpadded bs)

abbrev pub behind_word : List ℕ → List ℕ
behind_word bs = drop (until white (unpadded bs)) (unpadded bs)

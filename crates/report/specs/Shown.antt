-- How a report shows bytes: as themselves from 0x21 to 0x7E except `%`, any other as `%` and two hexadecimal digits, and none at all as `""`.
use Rattle.std.specs.Prelude.{◌≡◌, ℕ, ◌+◌, ◌/◌, ◌%◌, Bool, cond, not, ◌&&◌, List, [], ◌∷◌, ◌++◌, Ok, Err, Result, ◌==◌, nat_le, nat_lt}
use Rattle.std.specs.List.{flat_map}

abbrev pub hex : ℕ → ℕ
hex n = cond (nat_lt n 10) (48 + n) (55 + n)

abbrev pub as_itself : ℕ → Bool
as_itself b = nat_le 0x21 b && nat_le b 0x7E && not (b == 0x25)

abbrev pub byte_shown : ℕ → List ℕ
byte_shown b = cond (as_itself b) (b ∷ []) (0x25 ∷ hex (b / 16) ∷ hex (b % 16) ∷ [])

abbrev pub all_shown : List ℕ → List ℕ
all_shown bs = flat_map byte_shown bs

abbrev pub shown : List ℕ → List ℕ
shown [] = 0x22 ∷ 0x22 ∷ []
shown (b ∷ bs) = all_shown (b ∷ bs)

-- the text is written behind what was there, unless memory fails
abbrev pub Added : List ℕ → List ℕ → List ℕ → {E : Type 0} → Result Unit E → Type 0
Added text old new (Ok x) = new ≡ old ++ text
Added text old new (Err e) = Unit {0}

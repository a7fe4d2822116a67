-- A line of the protocol: bytes other than CR and LF, then CR LF.
use Rattle.std.specs.Prelude.{◌≡◌, ℕ, suc, ◌<◌, Bool, false, cond, ◌&&◌, ◌||◌, List, [], ◌∷◌, length, take, drop, None, Option, ◌==◌, nat_lt, not, MatchOption}
use Rattle.std.specs.List.{list_all}
use Rattle.resp.specs.Read.{Read, read}

abbrev pub breaks : ℕ → Bool
breaks b = b == 13 || b == 10

-- how many bytes stand before the first CR or LF
abbrev pub plain : List ℕ → ℕ
plain [] = 0
plain (b ∷ bs) = cond (breaks b) 0 (suc (plain bs))

-- above CR, and so neither CR nor LF
abbrev pub above : ℕ → Bool
above b = nat_lt 13 b

-- bytes of which one may be CR or LF
abbrev pub loud : List ℕ → Bool
loud bs = not (list_all above bs)

-- where the first CR or LF stands, or that there is none
abbrev pub FirstBreak : List ℕ → Option ℕ → Type 0
FirstBreak bs found = MatchOption found (plain bs ≡ length bs) (λ n. (n < length bs) × (n ≡ plain bs))

-- CR LF stands at the front
abbrev pub ended : List ℕ → Bool
ended [] = false
ended (c ∷ []) = false
ended (c ∷ d ∷ rest) = c == 13 && d == 10

-- a text, and behind it CR LF
abbrev pub closed : List ℕ → List ℕ → Option (Read (List ℕ))
closed text bs = cond (ended bs) (read text (drop 2 bs)) None

abbrev pub line : List ℕ → Option (Read (List ℕ))
line bs = closed (take (plain bs) bs) (drop (plain bs) bs)

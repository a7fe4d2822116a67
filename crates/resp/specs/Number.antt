-- Decimal numbers as the protocol writes them: leading zeros are allowed, without bound.
use Rattle.std.specs.Prelude.{ℕ, ◌+◌, ◌-◌, ◌*◌, ◌^◌, Bool, cond, ◌&&◌, List, [], ◌∷◌, ℤ, pos, neg_ℤ, Some, None, Option, ◌==◌, nat_le, nat_lt}

abbrev pub digit : ℕ → Bool
digit c = nat_le 48 c && nat_le c 57

-- what the digits come to behind those that made n
abbrev pub digits : ℕ → List ℕ → Option ℕ
digits n [] = Some n
digits n (c ∷ cs) = cond (digit c) (digits (10 * n + (c - 48)) cs) None

-- one or more digits
abbrev pub natural : List ℕ → Option ℕ
natural [] = None
natural (c ∷ cs) = digits 0 (c ∷ cs)

-- the same below a limit
abbrev pub below : ℕ → Option ℕ → Option ℕ
below limit None = None
below limit (Some n) = cond (nat_lt n limit) (Some n) None

abbrev pub positive : Option ℕ → Option ℤ
positive None = None
positive (Some n) = cond (nat_lt n (2 ^ 63)) (Some (pos n)) None

abbrev pub negative : Option ℕ → Option ℤ
negative None = None
negative (Some n) = cond (nat_le n (2 ^ 63)) (Some (neg_ℤ (pos n))) None

-- an optional sign, then digits, within 64 signed bits
abbrev pub signed : List ℕ → Option ℤ
signed [] = None
signed (c ∷ cs) = cond (c == 45) (negative (natural cs)) (cond (c == 43) (positive (natural cs)) (positive (natural (c ∷ cs))))

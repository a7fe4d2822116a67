-- A port in decimal digits, from 1 to 65535, without a leading zero.
use Rattle.std.specs.Prelude.{ℕ, ◌+◌, ◌-◌, ◌*◌, cond, ◌&&◌, List, [], ◌∷◌, Some, None, Option, ◌==◌, nat_le}
use Rattle.std.specs.Str.{all_ascii_digits}

-- what the digits come to behind those that made n
abbrev pub number : ℕ → List ℕ → ℕ
number n [] = n
number n (c ∷ cs) = number (10 * n + (c - 0x30)) cs

-- the same, if there are digits alone and the number is a port's
abbrev pub port_on : ℕ → List ℕ → Option ℕ
port_on n ds = cond (all_ascii_digits ds && nat_le (number n ds) 65535) (Some (number n ds)) None

abbrev pub port_of : List ℕ → Option ℕ
port_of [] = None
port_of (c ∷ cs) = cond (c == 0x30) None (port_on 0 (c ∷ cs))

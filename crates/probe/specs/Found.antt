-- What lookups in a slot table come to, as a sum that wraps at 2^64.
use Rattle.std.specs.Prelude.{ℕ, zero, suc, ◌+◌, ◌-◌, ◌*◌, ◌%◌, ◌^◌, List, [], ◌∷◌, length, Some, None, Ok, Err, Option, Result}
use Rattle.errors.specs.declared.redis_error.Refusal.{Refusal}
use Rattle.slot_map.specs.Range.{Range}
use Rattle.slot_map.specs.Table.{covering}

abbrev pub size : Result (List Range) Refusal → ℕ
size (Ok t) = length t
size (Err e) = 2 ^ 64 - 1

abbrev pub range_worth : Option Range → ℕ
range_worth None = 0
range_worth (Some r) = r.start + r.primary.port

abbrev pub worth : ℕ → List Range → ℕ
worth slot t = range_worth (covering slot t)

-- a slot is two bytes, the lower first
abbrev pub summed : List Range → ℕ → List ℕ → ℕ
summed t sum [] = sum
summed t sum (b ∷ []) = sum
summed t sum (low ∷ high ∷ bs) = summed t ((sum + worth (low + 256 * high) t) % 2 ^ 64) bs

abbrev pub repeated : List Range → List ℕ → ℕ → ℕ → ℕ
repeated t slots zero sum = sum
repeated t slots (suc n) sum = repeated t slots n (summed t sum slots)

abbrev pub found_in : List ℕ → ℕ → Result (List Range) Refusal → ℕ
found_in slots rounds (Ok t) = repeated t slots rounds 0
found_in slots rounds (Err e) = 0

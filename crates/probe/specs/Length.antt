-- How many bytes the value at the front of some bytes takes.
use Rattle.std.specs.Prelude.{ℕ, ◌-◌, List, length, Some, None, Option}
use Rattle.resp.specs.Read.{Read}
use Rattle.resp.specs.Reading.{value}
use Rattle.resp.specs.Value.{Value}

-- all but the bytes behind it; 0 where nothing was read
abbrev pub taken : List ℕ → Option (Read Value) → ℕ
taken bs None = 0
taken bs (Some x) = length bs - length x.rest

-- for one value, with arrays nested at most d deep
abbrev pub length_read : ℕ → List ℕ → ℕ
length_read d bs = taken bs (value d bs)

-- How the code tells a part of some bytes: by numbers.
use Rattle.std.specs.Prelude.{ℕ, ◌+◌, List, take, drop, Some, None, Option}
use Rattle.resp.specs.Read.{Read, read}

-- a text of n bytes at the front, and what stands behind its CR LF
abbrev pub cut : List ℕ → Option ℕ → Option (Read (List ℕ))
cut bs None = None
cut bs (Some n) = read (take n bs) (drop (n + 2) bs)

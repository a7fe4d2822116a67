-- The entries from one place up to another, moved one place on or back.
use Rattle.std.specs.Prelude.{ℕ, ◌+◌, List, ◌++◌, take, drop}
use Rattle.std.specs.List.{between}

module _ {E : Type 0} (at end : ℕ) (xs : List E) where
  -- the entry at the first place stands there and behind it
  abbrev pub moved_up : List E
  moved_up = take (at + 1) xs ++ (between at end xs ++ drop (end + 1) xs)

  -- the entry at the last place stands there and before it
  abbrev pub moved_down : List E
  moved_down = take at xs ++ (between (at + 1) (end + 1) xs ++ drop end xs)

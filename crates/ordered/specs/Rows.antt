-- What a row holds.
use Rattle.std.specs.Prelude.{◌≡◌, ℕ, List, [], ◌∷◌, ◌++◌, length, take, Ok, Err, Result}
use Rattle.ordered.specs.declared.edits.Full.{Full}
use Rattle.ordered.specs.declared.row.Row.{Row}

module _ {T : Type 0} {N : ℕ} where
  abbrev pub row_of : Row T N → List T
  row_of r = take r.count r.items

  -- the item is behind the others; or all places are taken, and nothing changed
  abbrev pub Pushed : T → Row T N → Row T N → Result Unit Full → Type 0
  Pushed x old new (Ok u) = row_of new ≡ row_of old ++ (x ∷ [])
  Pushed x old new (Err full) = (length (row_of old) ≡ N) × (new ≡ old)

-- What a table of a fixed size holds.
use Rattle.std.specs.Prelude.{◌≡◌, ℕ, List, length, Ok, Err, Some, None, Option, Result}
use Rattle.ordered.specs.Edits.{Changed}
use Rattle.ordered.specs.Rows.{row_of}
use Rattle.ordered.specs.Table.{lookup, put, without}
use Rattle.ordered.specs.declared.edits.Full.{Full}
use Rattle.ordered.specs.declared.entry.Entry.{Ghosts as Entries}
use Rattle.ordered.specs.declared.entry.Key.{Ghosts as Keys}
use Rattle.ordered.specs.declared.table.Table.{Table}

module _ {E K : Type 0} {N : ℕ} {entry : Entries E K} {key : Keys K} where
  abbrev pub table_of : Table E N K entry key → List E
  table_of t = row_of t.row

  -- the entry is in, and the one that it replaced is handed out; or all places are taken, and nothing changed
  abbrev pub Put : E → Table E N K entry key → Table E N K entry key → Result (Option E) Full → Type 0
  Put e old new (Ok replaced) =
      (replaced ≡ lookup entry.keyed key.ranks (entry.keyed e) (table_of old)) × (table_of new ≡ put entry.keyed key.ranks e (table_of old))
      × Changed entry.keyed key.ranks (entry.keyed e) (Some e) (table_of old) (table_of new)
  Put e old new (Err full) = (length (table_of old) ≡ N) × (lookup entry.keyed key.ranks (entry.keyed e) (table_of old) ≡ None) × (new ≡ old)

  -- the entry with the key is out; or there was none, and nothing changed
  abbrev pub TakenOut : K → Table E N K entry key → Table E N K entry key → Option E → Type 0
  TakenOut k old new (Some e) =
      (lookup entry.keyed key.ranks k (table_of old) ≡ Some e) × (table_of new ≡ without entry.keyed key.ranks k (table_of old))
      × Changed entry.keyed key.ranks k None (table_of old) (table_of new)
  TakenOut k old new None = (lookup entry.keyed key.ranks k (table_of old) ≡ None) × (new ≡ old)

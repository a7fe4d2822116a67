-- What an insertion and a removal leave of a slice whose first n entries are a table.
use Rattle.std.specs.Prelude.{◌≡◌, ℕ, ◌+◌, ◌≤◌, true, List, ◌++◌, length, take, drop, Some, None, Ok, Err, Option, Result, ◌≢◌}
use Rattle.std.specs.declared.cmp.Ordering.TheVariants.{Equal}
use Rattle.std.specs.declared.cmp.Ordering.{Ordering}
use Rattle.ordered.specs.Table.{ascending, lookup, put, without}
use Rattle.ordered.specs.declared.edits.Full.{Full}

module _ {E K : Type 0} (key : E → K) (rank : K → K → Ordering) where
  abbrev pub Table : List E → ℕ → Type 0
  Table entries n = (n ≤ length entries) × (ascending key rank (take n entries) ≡ true)

  -- t became u: the key k leads to o, every other key to what it led to before, and keys still ascend
  pub record Changed (k : K) (o : Option E) (t u : List E) : Type 0 where
    pub strict : ascending key rank u ≡ true
    pub there : lookup key rank k u ≡ o
    pub others : (q : K) → (rank k q ≢ Equal) → lookup key rank q u ≡ lookup key rank q t

  -- the entry is in, and the one that it replaced is handed out; or all places are taken, and nothing changed
  abbrev pub Inserted : E → List E → ℕ → List E → ℕ → Result (Option E) Full → Type 0
  Inserted e old n new m (Ok replaced) =
      (replaced ≡ lookup key rank (key e) (take n old)) × (m ≡ length (put key rank e (take n old))) × (m ≤ length old)
      × (new ≡ put key rank e (take n old) ++ drop m old) × Changed (key e) (Some e) (take n old) (put key rank e (take n old))
  Inserted e old n new m (Err full) = (n ≡ length old) × (lookup key rank (key e) (take n old) ≡ None) × (m ≡ n) × (new ≡ old)

  -- the entry with the key is out; or there was none, and nothing changed
  abbrev pub Removed : K → List E → ℕ → List E → ℕ → Option E → Type 0
  Removed k old n new m (Some e) =
      (lookup key rank k (take n old) ≡ Some e) × (m + 1 ≡ n) × (new ≡ without key rank k (take n old) ++ drop m old)
      × Changed k None (take n old) (without key rank k (take n old))
  Removed k old n new m None = (lookup key rank k (take n old) ≡ None) × (m ≡ n) × (new ≡ old)

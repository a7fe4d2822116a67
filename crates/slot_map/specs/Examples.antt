-- Worked examples of lookups.
use Rattle.std.specs.Prelude.{◌≡◌, ℕ, List, [], ◌∷◌, Some, None}
use Rattle.node.specs.declared.address.NodeAddress.{NodeAddress}
use Rattle.slot_map.specs.Range.{Range}
use Rattle.slot_map.specs.Table.{table, covering}

abbrev pub from_to : ℕ → ℕ → NodeAddress → Range
from_to s e a = record { start = s; end = e; primary = a; replicas = [] }

abbrev pub example_table : NodeAddress → List Range
example_table a = table (from_to 10 20 a ∷ from_to 0 5 a ∷ [])

-- with ranges 0 to 5 and 10 to 20, slots 5 and 10 are found, 6 and 21 are not
abbrev pub LookupExamples : Type 0
LookupExamples =
    (a : NodeAddress) →
    (covering 5 (example_table a) ≡ Some (from_to 0 5 a)) × (covering 10 (example_table a) ≡ Some (from_to 10 20 a))
    × (covering 6 (example_table a) ≡ None) × (covering 21 (example_table a) ≡ None)

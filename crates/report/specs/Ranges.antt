-- The ranges of the slot table that an answer gives, as a report lists them.
use Rattle.std.specs.Prelude.{ℕ, List, [], ◌∷◌, ◌++◌, map, Ok, Err, codes, decimal, Result}
use Rattle.std.specs.List.{flat_map}
use Rattle.errors.specs.declared.redis_error.Refusal.{Refusal}
use Rattle.node.specs.Address.{name_of}
use Rattle.node.specs.declared.address.NodeAddress.{NodeAddress}
use Rattle.report.specs.Words.{address_word, spaced}
use Rattle.slot_map.specs.Range.{Range}
use Rattle.slot_map.specs.Table.{slots}
use Rattle.tape.specs.declared.entry.Kind.{Kind}
use Rattle.tape.specs.declared.entry.Kind.TheVariants.{Answer, Dropped, Denied, Other}

abbrev pub node_word : NodeAddress → List ℕ
node_word a = address_word (name_of a)

unfoldable pub range_line : Range → List ℕ
range_line r = codes "range" ++ spaced (decimal r.start ∷ decimal r.end ∷ node_word r.primary ∷ map node_word r.replicas)

abbrev pub range_lines : List Range → List ℕ
range_lines rs = flat_map (λ r. range_line r ++ (10 ∷ [])) rs

abbrev pub table_lines : Result (List Range) Refusal → List ℕ
table_lines (Ok rs) = range_lines rs
table_lines (Err e) = []

-- a tape does not say which host answered: `-` stands for it
unfoldable pub entry_ranges : Kind → List ℕ → List ℕ
entry_ranges Answer bs = table_lines (slots (codes "-") bs)
entry_ranges Dropped bs = []
entry_ranges Denied bs = []
entry_ranges Other bs = []

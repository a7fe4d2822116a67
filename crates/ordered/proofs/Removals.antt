-- What a removal leaves of a slice whose first n entries are a table.
use Rattle.std.proofs.Common.{◌≡◌, ℕ, suc, ◌+◌, ◌-◌, ◌<◌, List, ◌++◌, get_or, take, drop, Some, Ok, Ordering, sym, ap, ◌∙◌, arith}
use Rattle.std.specs.List.{between}
use Rattle.std.proofs.lemmas.List.{append_assoc, length-take-le, take-take, get_or-take}
use Rattle.std.proofs.lemmas.Slice.{between_is}
use Rattle.ordered.specs.Edits.{Table, Removed}
use Rattle.ordered.specs.Moves.{moved_down}
use Rattle.ordered.specs.Table.{without, Found}
use Rattle.std.specs.Cmp.{IsTotalOrder}
use Rattle.ordered.proofs.Withouts.{without_there, changed_without}

module _ {E K : Type 0} (key : E → K) (rank : K → K → Ordering) (total : IsTotalOrder rank) (k : K) (old : List E) (n : ℕ) (table : Table key rank old n) where
  pub taken_out : (m i : ℕ) (x : E) (moved : List E) → m ≡ n → Found key rank (take n old) k (Ok i) → x ≡ get_or old i x → moved ≡ moved_down i (m - 1) old → Removed key rank k old n moved (m - 1) (Some x)
  taken_out m i x moved same f read down =
      let long = length-take-le n old table.0 in
      let within : i < n = omega (arith, f.0) in
      let last : m - 1 + 1 ≡ n = omega arith in
      let next : suc i ≡ i + 1 = omega arith in
      let parts : without key rank k (take n old) ≡ take i old ++ between (i + 1) (m - 1 + 1) old =
      without_there key rank k (take n old) i f.0 f.1 f.2
      ∙ (λ j. take-take i n old (omega arith) j ++ drop (next j) (take n old))
      ∙ ap (λ ys. take i old ++ ys) (sym (between_is old (i + 1) n) ∙ ap (λ j. between (i + 1) j old) (sym last)) in (
        f.3 x ∙ ap Some (get_or-take n old i x within ∙ sym read),
        last,
        down ∙ sym (append_assoc (take i old) (between (i + 1) (m - 1 + 1) old) (drop (m - 1) old)) ∙ ap (λ ys. ys ++ drop (m - 1) old) (sym parts),
        changed_without key rank k total (take n old) table.1,
      )

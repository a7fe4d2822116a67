-- A row is its items and their count, and a table its row, and nothing more; what an insertion and a removal make of it.
use Rattle.std.proofs.Common.{◌≡◌, ℕ, ◌≤◌, true, length, take, Some, None, Ok, Err, Option, Result, subst, sym, ◌∙◌}
use Rattle.std.proofs.Math.Bool.{Bool-set}
use Rattle.std.proofs.Math.Bridge.{le_prop}
use mathlib.Core.HLevel.{is_prop→PathP}
use Rattle.std.proofs.lemmas.List.{length-take-le}
use Rattle.ordered.specs.Edits.{Changed, Inserted, Removed}
use Rattle.ordered.specs.Rows.{row_of}
use Rattle.ordered.specs.Table.{ascending}
use Rattle.ordered.specs.Tables.{Put, TakenOut}
use Rattle.ordered.specs.declared.edits.Full.{Full}
use Rattle.ordered.specs.declared.entry.Entry.{Ghosts as Entries}
use Rattle.ordered.specs.declared.entry.Key.{Ghosts as Keys}
use Rattle.ordered.specs.declared.row.Row.{Row}
use Rattle.ordered.specs.declared.table.Table.{Table}
use Rattle.ordered.proofs.Owners.{inserted_table, removed_table}

same_row : {T : Type 0} {N : ℕ} (r s : Row T N) → r.items ≡ s.items → r.count ≡ s.count → r ≡ s
same_row {N = N} r s items count = λ i. record {
  items = items i;
  count = count i;
  few = is_prop→PathP (λ k. count k ≤ N) (λ k. le_prop) r.few s.few i;
}

module _ {E K : Type 0} {N : ℕ} {entry : Entries E K} {key : Keys K} where
  pub same_table : (t u : Table E N K entry key) → t.row.items ≡ u.row.items → t.row.count ≡ u.row.count → t ≡ u
  same_table t u items count = λ i. record {
    row = same_row t.row u.row items count i;
    ascends = is_prop→PathP (λ k. ascending entry.keyed key.ranks (row_of (same_row t.row u.row items count k)) ≡ true) (λ k. Bool-set _ _) t.ascends u.ascends i;
  }

  pub put_in : (e : E) (t u : Table E N K entry key) (r : Result (Option E) Full) → length t.row.items ≡ N → Inserted entry.keyed key.ranks e t.row.items t.row.count u.row.items u.row.count r → Put e t u r
  put_in e t u (Ok replaced) long h =
      let is = inserted_table entry.keyed key.ranks e t.row.items t.row.count u.row.items u.row.count replaced h in
      (h.0, is, subst (λ ys. Changed entry.keyed key.ranks (entry.keyed e) (Some e) (take t.row.count t.row.items) ys) (sym is) h.4)
  put_in e t u (Err full) long h = (length-take-le t.row.count t.row.items (rw long t.row.few) ∙ h.0 ∙ long, h.1, same_table u t h.3 h.2)

  pub taken_out : (k : K) (t u : Table E N K entry key) (r : Option E) → t.row.count ≤ length t.row.items → Removed entry.keyed key.ranks k t.row.items t.row.count u.row.items u.row.count r → TakenOut k t u r
  taken_out k t u (Some e) within h =
      let is = removed_table entry.keyed key.ranks k t.row.items t.row.count u.row.items u.row.count within e h in
      (h.0, is, subst (λ ys. Changed entry.keyed key.ranks k None (take t.row.count t.row.items) ys) (sym is) h.3)
  taken_out k t u None within h = (h.0, same_table u t h.2 h.1)

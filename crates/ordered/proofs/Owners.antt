-- What an insertion and a removal leave, for who owns the slice: a table again.
use Rattle.std.proofs.Common.{◌≡◌, ℕ, ◌≤◌, true, List, length, take, drop, Some, None, Ok, Err, Option, Result, Ordering, sym, ap, ◌∙◌, arith}
use Rattle.std.proofs.lemmas.List.{length-take-le, take_at}
use Rattle.ordered.specs.Edits.{Inserted, Removed}
use Rattle.ordered.specs.Table.{ascending, put, without}
use Rattle.ordered.specs.declared.edits.Full.{Full}
use Rattle.ordered.proofs.Withouts.{length-without}

module _ {E K : Type 0} (key : E → K) (rank : K → K → Ordering) (e : E) (old : List E) (n : ℕ) (new : List E) (m : ℕ) where
  pub inserted_table : (replaced : Option E) → Inserted key rank e old n new m (Ok replaced) → take m new ≡ put key rank e (take n old)
  inserted_table replaced h = ap (take m) h.3 ∙ take_at (put key rank e (take n old)) (drop m old) m (sym h.1)

  pub inserted_ascends : (r : Result (Option E) Full) → Inserted key rank e old n new m r → ascending key rank (take n old) ≡ true → ascending key rank (take m new) ≡ true
  inserted_ascends (Ok replaced) h up = ap (ascending key rank) (inserted_table replaced h) ∙ h.4.strict
  inserted_ascends (Err full) h up = (λ i. ascending key rank (take (h.2 i) (h.3 i))) ∙ up

module _ {E K : Type 0} (key : E → K) (rank : K → K → Ordering) (k : K) (old : List E) (n : ℕ) (new : List E) (m : ℕ) (within : n ≤ length old) where
  pub removed_table : (e : E) → Removed key rank k old n new m (Some e) → take m new ≡ without key rank k (take n old)
  removed_table e h = ap (take m) h.2 ∙ take_at (without key rank k (take n old)) (drop m old) m (omega (arith, length-without key rank k (take n old) e h.0, length-take-le n old within, h.1))

  pub removed_ascends : (r : Option E) → Removed key rank k old n new m r → ascending key rank (take n old) ≡ true → ascending key rank (take m new) ≡ true
  removed_ascends (Some e) h up = ap (ascending key rank) (removed_table e h) ∙ h.3.strict
  removed_ascends None h up = (λ i. ascending key rank (take (h.1 i) (h.2 i))) ∙ up

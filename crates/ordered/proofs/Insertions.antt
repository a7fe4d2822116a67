-- What an insertion leaves of a slice whose first n entries are a table.
use Rattle.std.proofs.Common.{◌≡◌, ℕ, ◌+◌, ◌<◌, List, ◌∷◌, ◌++◌, length, get_or, take, drop, set, Some, None, Ok, Err, Ordering, sym, ap, ◌∙◌, arith}
use Rattle.std.specs.List.{between}
use Rattle.std.proofs.lemmas.List.Edits.{length-insert}
use Rattle.std.proofs.lemmas.List.{append_assoc, length-set, length-take-le, take-append-drop, take-take, get_or-take, set-append_left}
use Rattle.std.proofs.lemmas.Slice.{between_is}
use Rattle.ordered.specs.Edits.{Table, Inserted}
use Rattle.ordered.specs.Moves.{moved_up}
use Rattle.ordered.specs.Table.{put, Found}
use Rattle.std.specs.Cmp.{IsTotalOrder}
use Rattle.ordered.proofs.Moves.{up_set}
use Rattle.ordered.proofs.Puts.{put_there, put_absent, changed_put}

module _ {E K : Type 0} (key : E → K) (rank : K → K → Ordering) (total : IsTotalOrder rank) (e : E) (old : List E) (n : ℕ) (table : Table key rank old n) where
  long : length (take n old) ≡ n
  long = length-take-le n old table.0

  pub replaced : (i : ℕ) (x : E) → Found key rank (take n old) (key e) (Ok i) → x ≡ get_or old i x → Inserted key rank e old n (set old i e) n (Ok (Some x))
  replaced i x f read =
      let is = put_there key rank e (take n old) i f.0 f.1 f.2 in
      let same = read ∙ sym (get_or-take n old i x (omega (arith, long, f.0))) in (
        ap Some same ∙ sym (f.3 x),
        sym (ap length is ∙ length-set (take n old) i e ∙ long),
        table.0,
        ap (λ ys. set ys i e) (sym (take-append-drop n old)) ∙ set-append_left (take n old) (drop n old) i e f.0 ∙ ap (λ ys. ys ++ drop n old) (sym is),
        changed_put key rank e total (take n old) table.1,
      )

  pub added : (m i : ℕ) (moved : List E) → m ≡ n → m < length old → Found key rank (take n old) (key e) (Err i) → moved ≡ moved_up i m old → Inserted key rank e old n (set moved i e) (m + 1) (Ok None)
  added m i moved same l f up =
      let is = put_absent key rank e (take n old) i f.0 f.1 f.2 in
      let parts : put key rank e (take n old) ≡ take i old ++ (e ∷ between i m old) = is ∙ (λ k. take-take i n old (omega (arith, long, f.0)) k ++ (e ∷ sym (between_is old i n) k)) ∙ ap (λ j. take i old ++ (e ∷ between i j old)) (sym same) in (
        sym f.3,
        sym (ap length is ∙ length-insert (take n old) i e f.0 ∙ ap (λ k. k + 1) (long ∙ sym same)),
        omega arith,
        ap (λ ys. set ys i e) up ∙ up_set old i m e (omega (arith, long, f.0)) ∙ sym (append_assoc (take i old) (e ∷ between i m old) (drop (m + 1) old)) ∙ ap (λ ys. ys ++ drop (m + 1) old) (sym parts),
        changed_put key rank e total (take n old) table.1,
      )

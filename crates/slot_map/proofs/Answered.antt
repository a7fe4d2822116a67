-- An answer that is one value, and nothing behind it.
use Rattle.std.proofs.Common.{◌≡◌, ℕ, Bool, true, false, cond, eqb, leb, List, length, Some, None, Ok, Err, Option, Result, sym, refl, ap, ◌∙◌, arith}
use Rattle.std.proofs.lemmas.Option.{none-some}
use Rattle.std.specs.Option.{ok_or, option_map}
use Rattle.std.proofs.lemmas.Bool.{and_from, and_left, and_right, cond-true, cond-false}
use Rattle.errors.specs.Endings.{answered}
use Rattle.errors.specs.declared.redis_error.Refusal.{Refusal}
use Rattle.errors.specs.declared.redis_error.Refusal.TheVariants.{SlotTable, Unreadable}
use Rattle.resp.specs.Read.{Read}
use Rattle.resp.specs.Reading.{value, alone}
use Rattle.resp.specs.Told.{text_at, told_whole}
use Rattle.resp.specs.Value.{Value, first_error}
use Rattle.resp.specs.declared.place.Walk.{Walk}
use Rattle.slot_map.specs.Front.{Begins}
use Rattle.slot_map.specs.Maps.{told, Limited}
use Rattle.slot_map.specs.Range.{Range}
use Rattle.slot_map.specs.Table.{table, addresses, listable, within, limited, slots_of, slots}
use Rattle.slot_map.specs.Tables.{ranges_of}
use Rattle.slot_map.specs.declared.slot_map.SlotMap.{SlotMap}
use Rattle.slot_map.specs.declared.slot_range_map.SlotRangeMap.{SlotRangeMap}

-- the value that is the answer
pub record Answered (bs : List ℕ) : Type 0 where
  pub answer : Value
  pub rest : List ℕ
  pub begins : Begins 8 bs answer rest
  pub alone_is : answered bs ≡ Some answer

module _ (answering bs : List ℕ) where
  unreadable : (o : Option Value) → answered bs ≡ o → None ≡ option_map first_error o → Err Unreadable ≡ slots answering bs
  unreadable None is h = sym (ap (slots_of answering) is)
  unreadable (Some v) is h = absurd (none-some _ h)

  readable : (r : Option (Read Value)) → value 8 bs ≡ r → (o : Option (List ℕ)) → Some o ≡ option_map first_error (alone r) → Answered bs
  unfolding Begins
  readable None e o h = absurd (none-some _ (sym h))
  readable (Some x) e o h = go (eqb (length x.rest) 0) refl h
    where
      go : (b : Bool) → eqb (length x.rest) 0 ≡ b → Some o ≡ option_map first_error (cond b (Some x.value) None) → Answered bs
      go true t h = record { answer = x.value; rest = x.rest; begins = e; alone_is = ap alone e ∙ ap (λ b. cond b (Some x.value) None) t }
      go false t h = absurd (none-some _ (sym h))

  -- what it tells of an answer whether it is one value
  abbrev pub Passed : Option Walk → Type 0
  Passed None = Err Unreadable ≡ slots answering bs
  Passed (Some w) = Answered bs

  pub passed : (r : Option Walk) → told_whole bs r ≡ option_map first_error (answered bs) → Passed r
  passed None found = unreadable (answered bs) refl found
  passed (Some w) found = readable (value 8 bs) refl (text_at bs w.error) found

-- how a refusal came about
pub refused_as : {A E : Type 0} (o : Option A) (x e : E) → Err e ≡ ok_or o x → e ≡ x
refused_as None x e h = cc
refused_as (Some y) x e h = let z : ◌≡◌ {A = ℕ} 0 1 = cc in absurd (omega arith)

-- the limits, in two steps
module _ (rs : List Range) where
  pub not_listable : listable rs ≡ false → Err SlotTable ≡ limited rs
  not_listable h = sym (cond-false (within rs) (Ok (table rs)) (Err SlotTable) (and_left _ _ h))

  pub is_limited : (m : SlotRangeMap) → ranges_of m ≡ table rs → listable rs ≡ true → (r : Result SlotMap Refusal) → Limited (ranges_of m) r → told r ≡ limited rs
  is_limited m is h (Ok s) k =
      ap Ok (k.0 ∙ is) ∙ sym (cond-true (within rs) (Ok (table rs)) (Err SlotTable) (and_from _ _ h (sym (ap (λ t. leb (length (addresses false t)) 64) is) ∙ k.1)))
  is_limited m is h (Err e) k =
      ap Err k.0 ∙ sym (cond-false (within rs) (Ok (table rs)) (Err SlotTable) (and_right _ _ (sym (ap (λ t. leb (length (addresses false t)) 64) is) ∙ k.1)))

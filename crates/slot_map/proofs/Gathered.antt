-- An answer's ranges, one at a time.
use Rattle.std.proofs.Common.{◌≡◌, ℕ, ◌<◌, true, false, cond, List, [], ◌∷◌, ◌++◌, length, is_some, IsSomeAnd, Some, None, Ok, Option, Result, sym, refl, ap, ◌∙◌, append_assoc, append-nil, arith, length-append}
use Rattle.std.proofs.lemmas.List.{length-take}
use Rattle.std.specs.Option.{option_map, option_to_list}
use Rattle.resp.specs.Value.{Value, Values}
use Rattle.std.specs.Borrow.{Bor}
use Rattle.errors.specs.declared.redis_error.Refusal.{Refusal}
use Rattle.slot_map.proofs.Elements.{Turn, turn_as, no_more}
use Rattle.slot_map.proofs.Tables.{few_push, not_few, is_listable, too_many, too_much}
use Rattle.slot_map.specs.Answer.{array_of, range, usable, ranges, ranges_of_items}
use Rattle.slot_map.specs.Elements.{Come, Stand, Gives}
use Rattle.slot_map.specs.declared.topology.elements.Elements.{Elements}
use Rattle.slot_map.specs.Range.{Range, range_of}
use Rattle.slot_map.specs.Table.{table, few, listable}
use Rattle.slot_map.specs.Tables.{ranges_of, Listed}
use Rattle.slot_map.specs.declared.slot_range.SlotRange.{SlotRange}
use Rattle.slot_map.specs.declared.slot_range_map.SlotRangeMap.{SlotRangeMap}

-- the table of all ranges of the answer, which are not too many
abbrev pub Whole : List ℕ → SlotRangeMap → Value → Type 0
Whole answering slots v = (ranges_of slots ≡ table (ranges answering v)) × (listable (ranges answering v) ≡ true)

-- an answer that is no array has none
pub nothing : (answering : List ℕ) (slots : SlotRangeMap) (v : Value) → ranges_of slots ≡ [] → array_of v ≡ None → Whole answering slots v
nothing answering slots v empty is =
    let no-ranges = ap (ranges_of_items answering) is in
    (empty ∙ sym (ap table no-ranges), ap listable no-ranges)

-- what the loop keeps: some items were seen, and the others come
pub record Sofar (answering : List ℕ) (listed : ℕ) (es : Elements) (slots : SlotRangeMap) (v : Value) (behind : List ℕ) : Type 0 where
  pub before : List Range
  pub left : Values
  pub come : Come 7 es left behind
  pub lists : Listed before slots (Ok listed)
  pub short : few before ≡ true
  pub whole : ranges answering v ≡ before ++ usable answering left

pub begins : (answering : List ℕ) (es : Elements) (slots : SlotRangeMap) (v : Value) (behind : List ℕ) → ranges_of slots ≡ [] → Stand 7 es behind v → Sofar answering 0 es slots v behind
begins answering es slots v behind empty elements = record {
  before = [];
  left = elements.values;
  come = elements.come;
  lists = (empty, refl, omega arith);
  short = refl;
  whole = ap (ranges answering) elements.is;
}

module _ {answering : List ℕ} {listed : ℕ} {es : Elements} {slots : SlotRangeMap} {v : Value} {behind : List ℕ} (so_far : Sofar answering listed es slots v behind) (next : Elements) where
  -- with nothing more to come
  done : ranges answering v ≡ so_far.before → Whole answering slots v
  done all = (
    so_far.lists.0 ∙ sym (ap table all),
    ap listable all ∙ is_listable so_far.before (omega (arith, so_far.lists.1, so_far.lists.2)) so_far.short,
  )

  module _ {r : Result (Bor (List ℕ)) Refusal} {x : Bor (List ℕ)} (is-next : r ≡ Ok x) (gives : Gives es (Some r) next) where
    abbrev pub here : Turn 7 x.now next so_far.left behind
    here = turn_as so_far.come next is-next gives

    from_here : ranges answering v ≡ so_far.before ++ cond (is_some (array_of here.first)) (option_to_list (range answering here.first) ++ usable answering here.others) []
    from_here = so_far.whole ∙ ap (λ us. so_far.before ++ usable answering us) here.is

    pub stops : array_of here.first ≡ None → Whole answering slots v
    stops h = done (from_here ∙ ap (λ o. so_far.before ++ cond (is_some o) (option_to_list (range answering here.first) ++ usable answering here.others) []) h ∙ append-nil so_far.before)

    module _ {elements : Elements} (stand : Stand 6 elements here.rest here.first) where
      is-array : true ≡ is_some (array_of here.first)
      is-array = ap (λ w. is_some (array_of w)) (sym stand.is)

      with_next : (o : Option Range) → o ≡ range answering here.first → ranges answering v ≡ (so_far.before ++ option_to_list o) ++ usable answering here.others
      with_next o is =
          from_here ∙ ap (λ b. so_far.before ++ cond b (option_to_list (range answering here.first) ++ usable answering here.others) []) (sym is-array)
          ∙ ap (λ p. so_far.before ++ (option_to_list p ++ usable answering here.others)) (sym is)
          ∙ sym (append_assoc so_far.before (option_to_list o) (usable answering here.others))

      pub too_much_here : IsSomeAnd (range answering here.first) (λ r. 8 < length r.replicas) → listable (ranges answering v) ≡ false
      too_much_here h = go (range answering here.first) refl h
        where
          go : (o : Option Range) → o ≡ range answering here.first → IsSomeAnd o (λ r. 8 < length r.replicas) → listable (ranges answering v) ≡ false
          go None is k = absurd k
          go (Some r) is k =
              let all = with_next (Some r) is ∙ append_assoc so_far.before (r ∷ []) (usable answering here.others) in
              ap listable all ∙ too_much (so_far.before ++ (r ∷ usable answering here.others)) (not_few so_far.before r (usable answering here.others) k)

      module _ (o : Option SlotRange) (is : option_map range_of o ≡ range answering here.first) where
        pub too_many_here : 256 < length (so_far.before ++ option_to_list (option_map range_of o)) → listable (ranges answering v) ≡ false
        too_many_here h =
            let all = ap length (with_next (option_map range_of o) is) ∙ length-append (so_far.before ++ option_to_list (option_map range_of o)) (usable answering here.others) in
            too_many (ranges answering v) (omega (arith, all))

        short_more : (p : Option SlotRange) → few (so_far.before ++ option_to_list (option_map range_of p)) ≡ true
        short_more None = ap few (append-nil so_far.before) ∙ so_far.short
        short_more (Some x) = few_push so_far.before (range_of x) so_far.short (omega (arith, length-take x.replicas.count x.replicas.items, x.replicas.few))

        pub goes_on : (new : SlotRangeMap) (now-listed : ℕ) → Listed (so_far.before ++ option_to_list (option_map range_of o)) new (Ok now-listed) → Sofar answering now-listed next new v behind
        goes_on new now-listed lists = record {
          before = so_far.before ++ option_to_list (option_map range_of o);
          left = here.others;
          come = here.come;
          lists = lists;
          short = short_more o;
          whole = with_next (option_map range_of o) is;
        }

  pub ends : Gives es None next → Whole answering slots v
  ends h = done (so_far.whole ∙ ap (λ us. so_far.before ++ usable answering us) (sym (no_more so_far.come next h)) ∙ append-nil so_far.before)

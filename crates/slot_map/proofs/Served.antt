-- The nodes of a range, one at a time.
use Rattle.std.proofs.Common.{◌≡◌, ℕ, ◌<◌, List, [], ◌++◌, length, Some, None, Option, Result, sym, refl, ap, ◌∙◌, append_assoc, append-nil, arith, length-append, Ok}
use Rattle.std.specs.Option.{option_map, option_to_list}
use Rattle.node.specs.declared.address.NodeAddress.{NodeAddress}
use Rattle.resp.specs.Value.{Values}
use Rattle.std.specs.Borrow.{Bor}
use Rattle.errors.specs.declared.redis_error.Refusal.{Refusal}
use Rattle.slot_map.proofs.Elements.{Turn, turn_as, no_more}
use Rattle.slot_map.specs.Answer.{node, nodes, served}
use Rattle.slot_map.specs.Elements.{Come, Gives}
use Rattle.slot_map.specs.declared.topology.elements.Elements.{Elements}
use Rattle.slot_map.specs.Range.{range_of}
use Rattle.slot_map.specs.declared.slot_range.SlotRange.{SlotRange}

-- what the loop keeps: some nodes were seen, and the others come
pub record Sofar (answering : List ℕ) (s e : ℕ) (es : Elements) (range : Option SlotRange) (vs : Values) (behind : List ℕ) : Type 0 where
  pub before : List NodeAddress
  pub left : Values
  pub come : Come 6 es left behind
  pub told : option_map range_of range ≡ served s e before
  pub whole : nodes answering vs ≡ before ++ nodes answering left

pub begins : (answering : List ℕ) (s e : ℕ) (es : Elements) (vs : Values) (behind : List ℕ) → Come 6 es vs behind → Sofar answering s e es None vs behind
begins answering s e es vs behind come = record { before = []; left = vs; come = come; told = refl; whole = refl }

module _ {answering : List ℕ} {s e : ℕ} {es : Elements} {range : Option SlotRange} {vs : Values} {behind : List ℕ} (so_far : Sofar answering s e es range vs behind) (next : Elements) where
  module _ {r : Result (Bor (List ℕ)) Refusal} {x : Bor (List ℕ)} (is-next : r ≡ Ok x) (gives : Gives es (Some r) next) where
    abbrev pub here : Turn 6 x.now next so_far.left behind
    here = turn_as so_far.come next is-next gives

    with_next : nodes answering vs ≡ (so_far.before ++ option_to_list (node answering here.first)) ++ nodes answering here.others
    with_next =
        so_far.whole ∙ ap (λ us. so_far.before ++ nodes answering us) here.is
        ∙ sym (append_assoc so_far.before (option_to_list (node answering here.first)) (nodes answering here.others))

    pub too_many : (o : Option NodeAddress) → o ≡ node answering here.first → 9 < length (so_far.before ++ option_to_list o) → 9 < length (nodes answering vs)
    too_many o is h =
        let all = ap length with_next ∙ length-append (so_far.before ++ option_to_list (node answering here.first)) (nodes answering here.others) in
        let same = ap (λ p. length (so_far.before ++ option_to_list p)) is in
        omega (arith, all, same)

    pub goes_on : (o : Option NodeAddress) → o ≡ node answering here.first → (next-range : Option SlotRange) → option_map range_of next-range ≡ served s e (so_far.before ++ option_to_list o) →
        Sofar answering s e next next-range vs behind
    goes_on o is next-range told = record {
      before = so_far.before ++ option_to_list o;
      left = here.others;
      come = here.come;
      told = told;
      whole = with_next ∙ ap (λ p. (so_far.before ++ option_to_list p) ++ nodes answering here.others) (sym is);
    }

  pub ends : Gives es None next → option_map range_of range ≡ served s e (nodes answering vs)
  ends h =
      let all = so_far.whole ∙ ap (λ us. so_far.before ++ nodes answering us) (sym (no_more so_far.come next h)) ∙ append-nil so_far.before in
      so_far.told ∙ ap (served s e) (sym all)

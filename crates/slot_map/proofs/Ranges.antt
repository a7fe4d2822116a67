-- A range: its first slot, its last slot, and its nodes.
use Rattle.std.proofs.Common.{◌≡◌, ℕ, zero, suc, ◌<◌, List, [], ◌∷◌, length, IsSomeAnd, Some, None, Ok, Err, Option, Result, ℤ, sym, refl, ap, ◌∙◌, subst, arith}
use Rattle.std.specs.Option.{option_map}
use Rattle.errors.specs.declared.redis_error.Refusal.{Refusal}
use Rattle.node.specs.declared.address.NodeAddress.{NodeAddress}
use Rattle.resp.specs.Value.{Value, integer, array, Values, none, more}
use Rattle.slot_map.proofs.Elements.{Laid, next, none_left}
use Rattle.slot_map.specs.Answer.{nodes, slot, served, slot_of, bounded, range_of_items, range}
use Rattle.slot_map.specs.Elements.{Heads, leading, Led}
use Rattle.slot_map.specs.Front.{Follow, NoRange, Serves, Ranged}
use Rattle.slot_map.specs.Range.{Range}
use Rattle.slot_map.specs.declared.slot_range.SlotRange.{SlotRange}
use Rattle.slot_map.specs.declared.topology.elements.Elements.{Elements}

too_many : (s e : ℕ) (ns : List NodeAddress) → 9 < length ns → IsSomeAnd (served s e ns) (λ r. 8 < length r.replicas)
too_many s e [] h = absurd (omega (arith, h))
too_many s e (n ∷ ns) h = omega (arith, h)

-- the range that its nodes serve
pub ranged : (s e : ℕ) (ns : List NodeAddress) (o : Option Range) → o ≡ served s e ns → (r : Result (Option SlotRange) Refusal) → Serves s e ns r → Ranged o r
ranged s e ns o is (Ok r) h = h ∙ sym is
ranged s e ns o is (Err x) h = (h.0, subst (λ p. IsSomeAnd p (λ r. 8 < length r.replicas)) (sym is) (too_many s e ns h.1))

no_bounds : (s e : Option ℕ) → bounded s e [] ≡ None
no_bounds None e = refl
no_bounds (Some s) None = refl
no_bounds (Some s) (Some e) = refl

few : (answering : List ℕ) (d n : ℕ) (bs behind : List ℕ) (vs : Values) → n < 3 → Follow d n bs vs behind → range_of_items answering (Some vs) ≡ None
few answering d zero bs behind vs h f = ap (λ us. range_of_items answering (Some us)) (sym (none_left d bs behind vs f))
few answering d (suc zero) bs behind vs h f =
    let x = next d 0 bs behind vs f in
    ap (λ us. range_of_items answering (Some us)) (x.is ∙ ap (more x.first) (sym (none_left d x.rest behind x.others x.follow)))
few answering d (suc (suc zero)) bs behind vs h f =
    let x = next d 1 bs behind vs f in
    let y = next d 0 x.rest behind x.others x.follow in
    let last = none_left d y.rest behind y.others y.follow in
    let all = x.is ∙ ap (more x.first) (y.is ∙ ap (more y.first) (sym last)) in
    ap (λ us. range_of_items answering (Some us)) all ∙ no_bounds (slot_of x.first) (slot_of y.first)
few answering d (suc (suc (suc n))) bs behind vs h f = absurd (omega arith)

-- fewer than two slots and a node are no range
pub few_items : (d n : ℕ) (bs behind : List ℕ) (v : Value) → n < 3 → Laid d n bs behind v → NoRange v
few_items d n bs behind v h e answering = ap (range answering) e.is ∙ few answering d n bs behind e.values h e.follow

-- what the elements of its array make of it
module _ (v : Value) (vs : Values) (is : v ≡ array vs) where
  pub no_start : leading vs ≡ None → NoRange v
  no_start h answering = ap (range answering) is ∙ go vs h
    where
      go : (us : Values) → leading us ≡ None → range_of_items answering (Some us) ≡ None
      go none k = refl
      go (more first none) k = refl
      go (more first (more second us)) k = ap (λ o. bounded (option_map slot o) (slot_of second) (nodes answering us)) k

  module _ (z : ℤ) (others : Values) (begins : vs ≡ more (integer z) others) where
    whole : (answering : List ℕ) → range answering v ≡ range_of_items answering (Some (more (integer z) others))
    whole answering = ap (range answering) is ∙ ap (λ us. range_of_items answering (Some us)) begins

    pub no_end : leading others ≡ None → NoRange v
    no_end h answering = whole answering ∙ go others h
      where
        go : (us : Values) → leading us ≡ None → range_of_items answering (Some (more (integer z) us)) ≡ None
        go none k = refl
        go (more second us) k = ap (λ o. bounded (Some (slot z)) (option_map slot o) (nodes answering us)) k

    pub heads : (y : ℤ) (es : Elements) (behind : List ℕ) → Led 6 y others es behind → Heads (slot z) (slot y) es behind v
    heads y es behind led = record {
      values = led.others;
      come = led.come;
      is = λ answering. whole answering ∙ ap (λ us. range_of_items answering (Some (more (integer z) us))) led.is;
    }

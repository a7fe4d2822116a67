-- The range with the smallest end at or above a slot, in a table.
use Rattle.std.proofs.Common.{◌≡◌, ℕ, zero, suc, ◌<◌, ◌≤◌, Bool, true, false, cond, ◌&&◌, leb, List, [], ◌∷◌, map, length, get_or, MatchOption, Some, None, Option, Ordering, Less, Equal, Greater, sym, refl, ap, ◌∙◌, subst, arith}
use Rattle.std.proofs.lemmas.Bool.{and_parts, lt-leb, le-leb, cond-true, cond-false}
use Rattle.std.specs.Bool.{then_some}
use Rattle.std.specs.Cmp.{ranks}
use Rattle.std.specs.List.{ItemBy}
use Rattle.std.specs.Option.{option_map}
use Rattle.std.specs.Ordering.{MatchOrdering, is_lt, nat_cmp}
use Rattle.ordered.specs.Table.{above, ascending}
use Rattle.slot_map.specs.Range.{Range, range_of}
use Rattle.slot_map.specs.Tables.{Reaching}
use Rattle.slot_map.specs.Table.{nearer, nearest, started, covering}
use Rattle.slot_map.specs.declared.slot_range.SlotRange.{SlotRange}

by_rank : (m n : ℕ) (o : Ordering) → nat_cmp m n ≡ o → MatchOrdering o (m < n) (m ≡ n) (n < m)
by_rank m n o e = subst (λ k. MatchOrdering k (m < n) (m ≡ n) (n < m)) e (ranks m n)

is_less : (m n : ℕ) (o : Ordering) → nat_cmp m n ≡ o → is_lt o ≡ true → m < n
is_less m n Less e h = by_rank m n Less e
is_less m n Equal e h = let z : ◌≡◌ {A = ℕ} 0 1 = cc in absurd (omega arith)
is_less m n Greater e h = let z : ◌≡◌ {A = ℕ} 0 1 = cc in absurd (omega arith)

module _ (slot : ℕ) where
  -- a range that ends below the slot does not matter
  passed : (r : Range) (o : Option Range) → r.end < slot → nearer slot r o ≡ o
  passed r None h = cond-false (leb slot r.end) (Some r) None (lt-leb slot r.end h)
  passed r (Some q) h = ap (λ b. cond (b && leb r.end q.end) (Some r) (Some q)) (lt-leb slot r.end h)

  -- one that reaches it is the nearest, if the others end later
  reached : (r : Range) (o : Option Range) → slot ≤ r.end → ((q : Range) → o ≡ Some q → r.end < q.end) → nearer slot r o ≡ Some r
  reached r None h later = cond-true (leb slot r.end) (Some r) None (le-leb slot r.end h)
  reached r (Some q) h later =
      let after : r.end ≤ q.end = omega (arith, later q refl) in
      ap (λ b. cond (b && leb r.end q.end) (Some r) (Some q)) (le-leb slot r.end h) ∙ cond-true (leb r.end q.end) (Some r) (Some q) (le-leb r.end q.end after)

  one_of : (r : Range) (o : Option Range) (q : Range) (n : ℕ) → nearer slot r o ≡ Some q → n < r.end → ((p : Range) → o ≡ Some p → n < p.end) → n < q.end
  one_of r None q n e h later = go (leb slot r.end) e
    where
      go : (b : Bool) → cond b (Some r) None ≡ Some q → n < q.end
      go true f = let same : r ≡ q = cc in subst (λ p. n < p.end) same h
      go false f = let z : ◌≡◌ {A = ℕ} 0 1 = cc in absurd (omega arith)
  one_of r (Some p) q n e h later = go (leb slot r.end && leb r.end p.end) e
    where
      go : (b : Bool) → cond b (Some r) (Some p) ≡ Some q → n < q.end
      go true f = let same : r ≡ q = cc in subst (λ s. n < s.end) same h
      go false f = let same : p ≡ q = cc in subst (λ s. n < s.end) same (later p refl)

  later_ends : (x : SlotRange) (xs : List SlotRange) → above (λ r. r.end) nat_cmp x xs ≡ true → (q : Range) → nearest slot (map range_of xs) ≡ Some q → x.end < q.end
  later_ends x [] h q e = let z : ◌≡◌ {A = ℕ} 0 1 = cc in absurd (omega arith)
  later_ends x (y ∷ ys) h q e =
      let p = and_parts _ _ h in
      one_of (range_of y) (nearest slot (map range_of ys)) q x.end e (is_less x.end y.end (nat_cmp x.end y.end) refl p.0) (later_ends x ys p.1)

  none_near : (xs : List SlotRange) → ((i : ℕ) (d : SlotRange) → i < length xs → (get_or xs i d).end < slot) → nearest slot (map range_of xs) ≡ None
  none_near [] h = refl
  none_near (x ∷ xs) h = passed (range_of x) (nearest slot (map range_of xs)) (h 0 x (omega arith)) ∙ none_near xs (λ i d low. h (suc i) d (omega arith))

  near : (xs : List SlotRange) (i : ℕ) (d : SlotRange) → ascending (λ r. r.end) nat_cmp xs ≡ true → i < length xs → ((j : ℕ) (e : SlotRange) → j < i → (get_or xs j e).end < slot) → slot ≤ (get_or xs i d).end →
      nearest slot (map range_of xs) ≡ Some (range_of (get_or xs i d))
  near [] i d up h before here = absurd (omega arith)
  near (x ∷ xs) zero d up h before here = reached (range_of x) (nearest slot (map range_of xs)) here (later_ends x xs (and_parts _ _ up).0)
  near (x ∷ xs) (suc i) d up h before here =
      passed (range_of x) (nearest slot (map range_of xs)) (before 0 x (omega arith))
      ∙ near xs i d (and_parts _ _ up).1 (omega arith) (λ j e low. before (suc j) e (omega arith)) here

  module _ (xs : List SlotRange) (at : ℕ) (up : ascending (λ r. r.end) nat_cmp xs ≡ true) (reaching : Reaching slot xs at) where
    not_covered : length xs ≤ at → None ≡ covering slot (map range_of xs)
    not_covered h = sym (ap (started slot) (none_near xs (λ i d low. reaching.1 i d (omega arith))))

    at_hand : (x : SlotRange) → x ≡ get_or xs at x → at < length xs → covering slot (map range_of xs) ≡ cond (leb x.start slot) (Some (range_of x)) None
    at_hand x is h = ap (started slot) (near xs at x up h reaching.1 (reaching.2 x h) ∙ ap (λ y. Some (range_of y)) (sym is))

    -- the range at the place, if it starts at or below the slot
    module _ {R : Type 0} (now : R → SlotRange) (Test : R → Bool → Type 0) (tests : (x : R) (b : Bool) → Test x b → b ≡ leb (now x).start slot) where
      kept : (b : Bool) (x : R) → option_map (λ y. range_of (now y)) (then_some b x) ≡ cond b (Some (range_of (now x))) None
      kept true x = refl
      kept false x = refl

      pub looked_up : (found o : Option R) → ItemBy now xs at at found → MatchOption found (o ≡ None) (λ x. (b : Bool) × Test x b × (o ≡ then_some b x)) → option_map (λ x. range_of (now x)) o ≡ covering slot (map range_of xs)
      looked_up None o h k = ap (option_map (λ y. range_of (now y))) k ∙ not_covered h.3
      looked_up (Some x) o h k =
          ap (option_map (λ y. range_of (now y))) k.2 ∙ kept k.0 x ∙ ap (λ b. cond b (Some (range_of (now x))) None) (tests x k.0 k.1)
          ∙ sym (at_hand (now x) h.1 h.3.0)

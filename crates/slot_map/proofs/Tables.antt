-- Tables that are filled one by one, and their limits.
use Rattle.std.proofs.Common.{◌≡◌, ℕ, suc, ◌+◌, ◌<◌, ◌≤◌, Bool, true, false, cond, ◌&&◌, leb, List, [], ◌∷◌, ◌++◌, map, length, get_or, drop, Some, None, Option, Ordering, Less, Equal, Greater, sym, refl, ap, ◌∙◌, arith}
use Rattle.std.proofs.lemmas.List.{at_drop_more}
use Rattle.std.proofs.lemmas.Bool.{and_from, and_left, and_right, lt-leb, le-leb}
use Rattle.std.specs.Ordering.{is_eq}
use Rattle.ordered.specs.Table.{by, lookup, put}
use Rattle.node.specs.Ranks.{address_rank}
use Rattle.node.specs.declared.address.NodeAddress.{NodeAddress}
use Rattle.std.specs.List.{flat_map}
use Rattle.slot_map.specs.Range.{Range, range_of}
use Rattle.slot_map.specs.Table.{filled, wanted, few, listable}
use Rattle.slot_map.specs.declared.slot_range.SlotRange.{SlotRange}

module _ {E K : Type 0} (key : E → K) (rank : K → K → Ordering) where
  pub filled_append : (t xs ys : List E) → filled key rank t (xs ++ ys) ≡ filled key rank (filled key rank t xs) ys
  filled_append t [] ys = refl
  filled_append t (x ∷ xs) ys = filled_append (put key rank x t) xs ys

  at_rank : (o : Ordering) (e x : E) (xs ys : List E) → length xs ≤ length ys → length ys ≤ suc (length xs) →
      (length (x ∷ xs) ≤ length (by o (x ∷ ys) (e ∷ xs) (e ∷ x ∷ xs))) × (length (by o (x ∷ ys) (e ∷ xs) (e ∷ x ∷ xs)) ≤ suc (length (x ∷ xs)))
  at_rank Less e x xs ys low high = (omega arith, omega arith)
  at_rank Equal e x xs ys low high = (omega arith, omega arith)
  at_rank Greater e x xs ys low high = (omega arith, omega arith)

  pub length_put : (e : E) (xs : List E) → (length xs ≤ length (put key rank e xs)) × (length (put key rank e xs) ≤ suc (length xs))
  length_put e [] = (omega arith, omega arith)
  length_put e (x ∷ xs) = let h = length_put e xs in at_rank (rank (key x) (key e)) e x xs (put key rank e xs) h.0 h.1

  pub length_filled : (t xs : List E) → (length t ≤ length (filled key rank t xs)) × (length (filled key rank t xs) ≤ length t + length xs)
  length_filled t [] = (omega arith, omega arith)
  length_filled t (x ∷ xs) =
      let one = length_put x t in
      let more = length_filled (put key rank x t) xs in
      (omega (arith, one.0, more.0), omega (arith, one.1, more.1))

  -- one entry more of those that a table is filled with
  pub filled_more : (t xs : List E) (i : ℕ) (x : E) → i < length xs → x ≡ get_or xs i x → filled key rank t (drop i xs) ≡ filled key rank (put key rank x t) (drop (i + 1) xs)
  filled_more t xs i x h is = at_drop_more (filled key rank t) xs i x h ∙ ap (λ y. filled key rank (put key rank y t) (drop (i + 1) xs)) (sym is)

-- a new key takes a place of its own
module _ {E K : Type 0} (key : E → K) (rank : K → K → Ordering) (e : E) where
  at_absent : (o : Ordering) (x : E) (xs ys : List E) (found : Option E) → (found ≡ None → length ys ≡ suc (length xs)) → cond (is_eq o) (Some x) found ≡ None →
      length (by o (x ∷ ys) (e ∷ xs) (e ∷ x ∷ xs)) ≡ suc (length (x ∷ xs))
  at_absent Less x xs ys found h k = ap suc (h k)
  at_absent Equal x xs ys found h k = let z : ◌≡◌ {A = ℕ} 0 1 = cc in absurd (omega arith)
  at_absent Greater x xs ys found h k = refl

  pub length_put_absent : (xs : List E) → lookup key rank (key e) xs ≡ None → length (put key rank e xs) ≡ suc (length xs)
  length_put_absent [] h = refl
  length_put_absent (x ∷ xs) h = at_absent (rank (key x) (key e)) x xs (put key rank e xs) (lookup key rank (key e) xs) (length_put_absent xs) h

few_append : (xs ys : List Range) → few (xs ++ ys) ≡ (few xs && few ys)
few_append [] ys = refl
few_append (x ∷ xs) ys = ap (λ b. leb (length x.replicas) 8 && b) (few_append xs ys) ∙ regroup (leb (length x.replicas) 8) (few xs) (few ys)
  where
    regroup : (a b c : Bool) → (a && (b && c)) ≡ (a && b && c)
    regroup true b c = refl
    regroup false b c = refl

pub few_push : (xs : List Range) (r : Range) → few xs ≡ true → length r.replicas ≤ 8 → few (xs ++ (r ∷ [])) ≡ true
few_push xs r h k = few_append xs (r ∷ []) ∙ and_from _ _ h (and_from _ _ (le-leb _ _ k) refl)

pub not_few : (xs : List Range) (r : Range) (ys : List Range) → 8 < length r.replicas → few (xs ++ (r ∷ ys)) ≡ false
not_few xs r ys h = few_append xs (r ∷ ys) ∙ and_right _ _ (and_left _ _ (lt-leb _ _ h))

pub is_listable : (rs : List Range) → length rs ≤ 256 → few rs ≡ true → listable rs ≡ true
is_listable rs h k = and_from _ _ (le-leb _ _ h) k

pub too_many : (rs : List Range) → 256 < length rs → listable rs ≡ false
too_many rs h = and_left _ _ (lt-leb _ _ h)

pub too_much : (rs : List Range) → few rs ≡ false → listable rs ≡ false
too_much rs h = and_right _ _ h

-- the addresses of a range, which begin with its primary
pub primary_first : (only : Bool) (r : Range) (t : List NodeAddress) (n : ℕ) → n < length (put (λ a. a) address_rank r.primary t) → n < length (filled (λ a. a) address_rank t (wanted only r))
primary_first true r t n h = h
primary_first false r t n h = omega (arith, h, (length_filled (λ a. a) address_rank (put (λ a. a) address_rank r.primary t) r.replicas).0)

module _ (only : Bool) (t : List NodeAddress) (rs : List SlotRange) (i : ℕ) (x : SlotRange) (left : i < length rs) (is : x ≡ get_or rs i x) where
  pub range_more : filled (λ a. a) address_rank t (flat_map (wanted only) (map range_of (drop i rs))) ≡ filled (λ a. a) address_rank (filled (λ a. a) address_rank t (wanted only (range_of x))) (flat_map (wanted only) (map range_of (drop (i + 1) rs)))
  range_more =
      at_drop_more (λ l. filled (λ a. a) address_rank t (flat_map (wanted only) (map range_of l))) rs i x left
      ∙ filled_append (λ a. a) address_rank t (wanted only (range_of (get_or rs i x))) (flat_map (wanted only) (map range_of (drop (i + 1) rs)))
      ∙ ap (λ y. filled (λ a. a) address_rank (filled (λ a. a) address_rank t (wanted only (range_of y))) (flat_map (wanted only) (map range_of (drop (i + 1) rs)))) (sym is)

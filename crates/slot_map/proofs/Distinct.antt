-- Keys that are put into a table one by one stand there once each.
use Rattle.std.proofs.Common.{◌≡◌, ℕ, ◌≤◌, Bool, true, false, ◌⊎◌, List, [], ◌∷◌, ◌++◌, length, Ok, Err, Result, Ordering, Less, Equal, Greater, sym, refl, ap, ◌∙◌, subst, inl, inr, ⊎_elim, arith}
use Rattle.std.proofs.lemmas.Bool.{and_parts, and_from}
use Rattle.std.specs.List.{flat_map}
use Rattle.std.specs.Result.{IsOk}
use Rattle.errors.specs.declared.redis_error.Refusal.{Refusal}
use Rattle.std.specs.Ordering.{ordering_reverse}
use Rattle.node.specs.Ranks.{address_rank}
use Rattle.node.specs.declared.address.NodeAddress.{NodeAddress}
use Rattle.ordered.proofs.Puts.{changed_put}
use Rattle.ordered.proofs.Ranks.{is_less}
use Rattle.ordered.specs.Orders.{addresses_total, lawful}
use Rattle.ordered.specs.Table.{by, above, ascending, put}
use Rattle.ordered.specs.Total.{Total}
use Rattle.slot_map.specs.Distinct.{Among, EachOnce}
use Rattle.slot_map.specs.Range.{Range}
use Rattle.slot_map.specs.Sets.{Collected}
use Rattle.slot_map.specs.Table.{filled, wanted, addresses}
use Rattle.slot_map.specs.declared.address_set.AddressSet.{AddressSet}

module _ {K : Type 0} (rank : K → K → Ordering) (total : Total rank) where
  put_at : (o : Ordering) (e x a : K) (xs ys : List K) → rank x e ≡ o → (Among a ys → (a ≡ e) ⊎ Among a xs) → Among a (by o (x ∷ ys) (e ∷ xs) (e ∷ x ∷ xs)) → (a ≡ e) ⊎ Among a (x ∷ xs)
  put_at Less e x a xs ys is h (inl k) = inr (inl k)
  put_at Less e x a xs ys is h (inr k) = ⊎_elim inl (λ m. inr (inr m)) (h k)
  put_at Equal e x a xs ys is h (inl k) = inl k
  put_at Equal e x a xs ys is h (inr k) = inr (inr k)
  put_at Greater e x a xs ys is h (inl k) = inl k
  put_at Greater e x a xs ys is h (inr k) = inr k

  among_put : (e a : K) (xs : List K) → Among a (put (λ x. x) rank e xs) → (a ≡ e) ⊎ Among a xs
  among_put e a [] (inl h) = inl h
  among_put e a [] (inr h) = absurd h
  among_put e a (x ∷ xs) h = put_at (rank x e) e x a xs (put (λ y. y) rank e xs) refl (among_put e a xs) h

  new_at : (o : Ordering) (e x : K) (xs ys : List K) → Among e ys → Among e (by o (x ∷ ys) (e ∷ xs) (e ∷ x ∷ xs))
  new_at Less e x xs ys h = inr h
  new_at Equal e x xs ys h = inl refl
  new_at Greater e x xs ys h = inl refl

  put_new : (e : K) (xs : List K) → Among e (put (λ x. x) rank e xs)
  put_new e [] = inl refl
  put_new e (x ∷ xs) = new_at (rank x e) e x xs (put (λ y. y) rank e xs) (put_new e xs)

  old_at : (o : Ordering) (e x a : K) (xs ys : List K) → rank x e ≡ o → (Among a xs → Among a ys) → Among a (x ∷ xs) → Among a (by o (x ∷ ys) (e ∷ xs) (e ∷ x ∷ xs))
  old_at Less e x a xs ys is h (inl k) = inl k
  old_at Less e x a xs ys is h (inr k) = inr (h k)
  old_at Equal e x a xs ys is h (inl k) = inl (k ∙ total.same x e is)
  old_at Equal e x a xs ys is h (inr k) = inr k
  old_at Greater e x a xs ys is h k = inr k

  put_old : (e a : K) (xs : List K) → Among a xs → Among a (put (λ x. x) rank e xs)
  put_old e a [] h = absurd h
  put_old e a (x ∷ xs) h = old_at (rank x e) e x a xs (put (λ y. y) rank e xs) refl (put_old e a xs) h

  filled_old : (a : K) (t xs : List K) → Among a t → Among a (filled (λ x. x) rank t xs)
  filled_old a t [] h = h
  filled_old a t (x ∷ xs) h = filled_old a (put (λ y. y) rank x t) xs (put_old x a t h)

  filled_new : (a : K) (t xs : List K) → Among a xs → Among a (filled (λ x. x) rank t xs)
  filled_new a t [] h = absurd h
  filled_new a t (x ∷ xs) (inl h) = filled_old a (put (λ y. y) rank x t) xs (subst (λ b. Among b (put (λ y. y) rank x t)) (sym h) (put_new x t))
  filled_new a t (x ∷ xs) (inr h) = filled_new a (put (λ y. y) rank x t) xs h

  among_filled : (a : K) (t xs : List K) → Among a (filled (λ x. x) rank t xs) → Among a t ⊎ Among a xs
  among_filled a t [] h = inl h
  among_filled a t (x ∷ xs) h = ⊎_elim (λ k. ⊎_elim (λ e. inr (inl e)) inl (among_put x a t k)) (λ k. inr (inr k)) (among_filled a (put (λ y. y) rank x t) xs h)

  filled_ascends : (t xs : List K) → ascending (λ x. x) rank t ≡ true → ascending (λ x. x) rank (filled (λ x. x) rank t xs) ≡ true
  filled_ascends t [] h = h
  filled_ascends t (x ∷ xs) h = filled_ascends (put (λ y. y) rank x t) xs (changed_put (λ y. y) rank x (lawful total) t h).strict

  above_all : (x a : K) (ys : List K) → above (λ y. y) rank x ys ≡ true → Among a ys → rank x a ≡ Less
  above_all x a [] h k = absurd k
  above_all x a (y ∷ ys) h (inl k) = ap (rank x) k ∙ is_less (rank x y) (and_parts _ _ h).0
  above_all x a (y ∷ ys) h (inr k) = above_all x a ys (and_parts _ _ h).1 k

  not_itself : (x y : K) → x ≡ y → rank x y ≡ Less → ⊥
  not_itself x y e h = let z : ◌≡◌ {A = Ordering} Equal Less = sym (total.itself x) ∙ ap (rank x) e ∙ h in let k : ◌≡◌ {A = ℕ} 0 1 = cc in omega arith

  -- what stands in a later part, if it is not the first
  later : (x y : K) (ys : List K) → (x ≡ y → ⊥) → Among x (y ∷ ys) → Among x ys
  later x y ys h (inl k) = absurd (h k)
  later x y ys h (inr k) = k

  at_first : (o : Ordering) (x y : K) (xs ys : List K) → rank x y ≡ o → above (λ z. z) rank x xs ≡ true → ascending (λ z. z) rank xs ≡ true → above (λ z. z) rank y ys ≡ true →
      ((zs : List K) → ascending (λ z. z) rank zs ≡ true → ((a : K) → Among a zs → Among a ys) → length zs ≤ length ys) → ((a : K) → Among a (x ∷ xs) → Among a (y ∷ ys)) → length (x ∷ xs) ≤ length (y ∷ ys)
  at_first Less x y xs ys is ax up ay rest h =
      absurd (⊎_elim (λ e. not_itself x y e is) (λ m. not_itself x x refl (total.chained x y x is (above_all y x ys ay m))) (h x (inl refl)))
  at_first Equal x y xs ys is ax up ay rest h =
      let e = total.same x y is in
      let fits = rest xs up (λ a m. later a y ys (λ k. not_itself x a (e ∙ sym k) (above_all x a xs ax m)) (h a (inr m))) in
      omega (arith, fits)
  at_first Greater x y xs ys is ax up ay rest h =
      let below : rank y x ≡ Less = total.turned y x ∙ ap ordering_reverse is in
      let apart : (a : K) → Among a (x ∷ xs) → a ≡ y → ⊥ = λ a m k. ⊎_elim (λ e. not_itself y x (sym k ∙ e) below) (λ n. not_itself y a (sym k) (total.chained y x a below (above_all x a xs ax n))) m in
      let fits = rest (x ∷ xs) (and_from _ _ ax up) (λ a m. later a y ys (apart a m) (h a m)) in
      omega (arith, fits)

  -- of two ascending lists one of which has all that the other has
  pub fewer : (ys xs : List K) → ascending (λ x. x) rank xs ≡ true → ascending (λ x. x) rank ys ≡ true → ((a : K) → Among a xs → Among a ys) → length xs ≤ length ys
  fewer ys [] up vp h = omega arith
  fewer [] (x ∷ xs) up vp h = absurd (h x (inl refl))
  fewer (y ∷ ys) (x ∷ xs) up vp h =
      let p = and_parts _ _ up in
      let q = and_parts _ _ vp in
      at_first (rank x y) x y xs ys refl p.0 p.1 q.0 (λ zs wp k. fewer ys zs wp q.1 k) h

pub each_once : (named : List NodeAddress) → EachOnce named (filled (λ a. a) address_rank [] named)
each_once named = record {
  strict = filled_ascends address_rank addresses_total [] named refl;
  all = λ a h. filled_new address_rank addresses_total a [] named h;
  only = λ a h. ⊎_elim (λ k. absurd k) (λ k. k) (among_filled address_rank addresses_total a [] named h);
}

among_front : (a : NodeAddress) (xs ys : List NodeAddress) → Among a ys → Among a (xs ++ ys)
among_front a [] ys h = h
among_front a (x ∷ xs) ys h = inr (among_front a xs ys h)

-- a primary is a node too
nodes_too : (a : NodeAddress) (rs : List Range) → Among a (flat_map (wanted true) rs) → Among a (flat_map (wanted false) rs)
nodes_too a [] h = h
nodes_too a (r ∷ rs) (inl h) = inl h
nodes_too a (r ∷ rs) (inr h) = inr (among_front a r.replicas (flat_map (wanted false) rs) (nodes_too a rs h))

pub wanted_fewer : (only : Bool) (rs : List Range) → length (addresses only rs) ≤ length (addresses false rs)
wanted_fewer true rs =
    let one = each_once (flat_map (wanted true) rs) in
    let other = each_once (flat_map (wanted false) rs) in
    fewer address_rank addresses_total (addresses false rs) (addresses true rs) one.strict other.strict (λ a h. other.all a (nodes_too a rs (one.only a h)))
wanted_fewer false rs = omega arith

-- so few are collected
pub all_fit : (only : Bool) (rs : List Range) (r : Result AddressSet Refusal) → Collected only rs r → length (addresses only rs) ≤ 64 → IsOk r
all_fit only rs (Ok s) h k = refl
all_fit only rs (Err e) h k = absurd (omega (arith, h.1, k))

-- What a walk over an array's elements keeps.
use Rattle.std.proofs.Common.{◌≡◌, ℕ, zero, suc, ◌+◌, ◌-◌, ◌<◌, ◌≤◌, ◌⊎◌, List, length, take, drop, ℤ, Some, None, Option, MatchOption, IsSomeAnd, sym, refl, ap, ◌∙◌, subst, inl, inr, arith}
use Rattle.std.proofs.lemmas.List.{drop-drop, take_rest}
use Rattle.std.specs.Option.{option_or}
use Rattle.resp.proofs.Shared.{same_value, same_rest}
use Rattle.resp.specs.Read.{Read, read, then}
use Rattle.resp.specs.Reading.{whole, elements, head, several, completed, value}
use Rattle.resp.specs.Told.{part, shown, told, seen, text_at, further, moved, Errs, told_walk}
use Rattle.resp.specs.Value.{Value, simple_string, integer, bulk_string, null, array, Values, more, first_error, first_in, or_else}
use Rattle.resp.specs.declared.place.Head.{Head}
use Rattle.resp.specs.declared.place.Head.TheVariants.{Simple, Integer, Bulk, Nil, Array}
use Rattle.resp.specs.declared.place.Place.{Place}
use Rattle.resp.specs.declared.place.Token.{Token}
use Rattle.resp.specs.declared.place.Walk.{Walk}

abbrev pub all_seen : Option (Read Values) → Option (Read (Option (List ℕ)))
all_seen None = None
all_seen (Some x) = read (first_in x.value) x.rest

-- with an error that was found before
abbrev pub joined : Option (List ℕ) → Option (Read (Option (List ℕ))) → Option (Read (Option (List ℕ)))
joined e None = None
joined e (Some x) = read (or_else e x.value) x.rest

or_assoc : {A : Type 0} (a b c : Option A) → or_else (or_else a b) c ≡ or_else a (or_else b c)
or_assoc None b c = refl
or_assoc (Some x) b c = refl

joined_joined : (a b : Option (List ℕ)) (r : Option (Read (Option (List ℕ)))) → joined a (joined b r) ≡ joined (or_else a b) r
joined_joined a b None = refl
joined_joined a b (Some x) = ap (λ e. read e x.rest) (sym (or_assoc a b x.value))

joined_none : (r : Option (Read (Option (List ℕ)))) → joined None r ≡ r
joined_none None = refl
joined_none (Some x) = refl

pub whole_seen : (d : ℕ) (bs : List ℕ) (v : Value) (rest : List ℕ) → read (whole v) rest ≡ head bs → read (first_error v) rest ≡ seen (value d bs)
whole_seen zero bs v rest e = ap (λ h. seen (then h (completed (λ n behind. None)))) e
whole_seen (suc d) bs v rest e = ap (λ h. seen (then h (completed (several (value d))))) e

array_seen : (r : Option (Read Values)) → seen (then r (λ vs behind. read (array vs) behind)) ≡ all_seen r
array_seen None = refl
array_seen (Some x) = refl

-- an array begins: nothing was found yet
pub array_begins : (d : ℕ) (bs : List ℕ) (n : ℕ) (rest : List ℕ) → read (elements n) rest ≡ head bs → joined None (all_seen (several (value d) n rest)) ≡ seen (value (suc d) bs)
array_begins d bs n rest e =
    joined_none (all_seen (several (value d) n rest)) ∙ sym (array_seen (several (value d) n rest)) ∙ ap (λ h. seen (then h (completed (several (value d))))) e

module _ (one : List ℕ → Option (Read Value)) (k : ℕ) where
  goes_on : (x : Read Value) → all_seen (then (Some x) (λ v rest. then (several one k rest) (λ vs behind. read (more v vs) behind))) ≡ joined (first_error x.value) (all_seen (several one k x.rest))
  goes_on x = go (several one k x.rest)
    where
      go : (r : Option (Read Values)) → all_seen (then r (λ vs behind. read (more x.value vs) behind)) ≡ joined (first_error x.value) (all_seen r)
      go None = refl
      go (Some y) = refl

  -- one element more, or none
  pub several_seen : (bs : List ℕ) (e : Option (List ℕ)) (rest : List ℕ) → read e rest ≡ seen (one bs) → all_seen (several one (suc k) bs) ≡ joined e (all_seen (several one k rest))
  several_seen bs e rest h = go (one bs) h
    where
      go : (r : Option (Read Value)) → read e rest ≡ seen r → all_seen (then r (λ v behind. then (several one k behind) (λ vs last. read (more v vs) last))) ≡ joined e (all_seen (several one k rest))
      go None f = let z : ◌≡◌ {A = ℕ} 0 1 = cc in absurd (omega arith)
      go (Some x) f =
          goes_on x ∙ ap (λ a. joined a (all_seen (several one k x.rest))) (sym (same_value f)) ∙ ap (λ l. joined e (all_seen (several one k l))) (sym (same_rest f))

  pub several_stops : (bs : List ℕ) → None ≡ seen (one bs) → all_seen (several one (suc k) bs) ≡ None
  several_stops bs h = go (one bs) h
    where
      go : (r : Option (Read Value)) → None ≡ seen r → all_seen (then r (λ v behind. then (several one k behind) (λ vs last. read (more v vs) last))) ≡ None
      go None f = refl
      go (Some x) f = let z : ◌≡◌ {A = ℕ} 0 1 = cc in absurd (omega arith)

-- a place further on
pub part_moved : (bs : List ℕ) (n : ℕ) (p : Place) → part (drop n bs) p ≡ part bs (record { start = n + p.start; end = n + p.end })
part_moved bs n p =
    let same : n + p.end - (n + p.start) ≡ p.end - p.start = omega arith in
    rw (same, drop-drop p.start n bs)

text_moved : (bs : List ℕ) (n : ℕ) (o : Option Place) → text_at (drop n bs) o ≡ text_at bs (moved n o)
text_moved bs n None = refl
text_moved bs n (Some p) = ap Some (part_moved bs n p)

text_or : (bs : List ℕ) (a b : Option Place) → text_at bs (or_else a b) ≡ or_else (text_at bs a) (text_at bs b)
text_or bs None b = refl
text_or bs (Some p) b = refl

pub errs_more : (m by : ℕ) (a b : Option Place) → Errs m a → Errs (m - by) b → by ≤ m → Errs m (or_else a (moved by b))
errs_more m by None None h k l = tt
errs_more m by None (Some q) h k l = omega arith
errs_more m by (Some p) b h k l = h

-- the first of two errors, of which the later was found `by` bytes further on
pub or_moved : (P : Place → Place → Type 0) (by : ℕ) (a b r s : Option Place) → MatchOption b (r ≡ None) (λ p. IsSomeAnd r (P p)) → s ≡ option_or a r → ((p q : Place) → b ≡ Some p → P p q → q ≡ further by p) → s ≡ or_else a (moved by b)
or_moved P by None None r s h e f = e ∙ h
or_moved P by None (Some p) None s h e f = absurd h
or_moved P by None (Some p) (Some q) s h e f = e ∙ ap Some (f p q refl h)
or_moved P by (Some x) b r s h e f = e

-- one turn of the walk over k + 1 elements, the next of which stands at len
pub walk_more : (one : List ℕ → Option (Read Value)) (k : ℕ) (bs : List ℕ) (len next : ℕ) (a b : Option Place) →
    read (text_at (drop len bs) b) (drop next (drop len bs)) ≡ seen (one (drop len bs)) →
    joined (text_at bs (or_else a (moved len b))) (all_seen (several one k (drop (len + next) bs))) ≡ joined (text_at bs a) (all_seen (several one (suc k) (drop len bs)))
walk_more one k bs len next a b h =
    ap (λ t. joined t (all_seen (several one k (drop (len + next) bs)))) (text_or bs a (moved len b) ∙ ap (or_else (text_at bs a)) (sym (text_moved bs len b)))
    ∙ sym (joined_joined (text_at bs a) (text_at (drop len bs) b) (all_seen (several one k (drop (len + next) bs))))
    ∙ ap (λ l. joined (text_at bs a) (joined (text_at (drop len bs) b) (all_seen (several one k l)))) (sym (drop-drop next len bs))
    ∙ ap (joined (text_at bs a)) (sym (several_seen one k (drop len bs) (text_at (drop len bs) b) (drop next (drop len bs)) h))

-- what a token at the front makes of the whole value
module _ (depth : ℕ) (bs : List ℕ) (t : Token) (found : told bs (Some t) ≡ head bs) where
  at_head : (h : Head) → t.head ≡ h → read (shown bs h) (drop t.len bs) ≡ head bs
  at_head h is = ap (λ x. read (shown bs x) (drop t.len bs)) (sym is) ∙ found

  pub quiet_told :
      ((p : Place) × (t.head ≡ Simple p)) ⊎ (((z : ℤ) × (t.head ≡ Integer z)) ⊎ (((p : Place) × (t.head ≡ Bulk p)) ⊎ (t.head ≡ Nil))) →
      read None (drop t.len bs) ≡ seen (value depth bs)
  quiet_told (inl p) = whole_seen depth bs (simple_string (part bs p.0)) (drop t.len bs) (at_head (Simple p.0) p.1)
  quiet_told (inr (inl z)) = whole_seen depth bs (integer z.0) (drop t.len bs) (at_head (Integer z.0) z.1)
  quiet_told (inr (inr (inl p))) = whole_seen depth bs (bulk_string (part bs p.0)) (drop t.len bs) (at_head (Bulk p.0) p.1)
  quiet_told (inr (inr (inr is))) = whole_seen depth bs null (drop t.len bs) (at_head Nil is)

  pub array_told : (n nested : ℕ) → nested + 1 ≡ depth → t.head ≡ Array n →
      joined None (all_seen (several (value nested) (n - 0) (drop t.len bs))) ≡ seen (value depth bs)
  array_told n nested one is =
      let all : n - 0 ≡ n = omega arith in
      let deep : depth ≡ suc nested = omega arith in
      ap (λ k. joined None (all_seen (several (value nested) k (drop t.len bs)))) all
      ∙ array_begins nested bs n (drop t.len bs) (at_head (Array n) is) ∙ ap (λ d. seen (value d bs)) (sym deep)

-- the walk at the element i of n, with the error found so far; the part of the bytes from len on is the code's
module _ (one : List ℕ → Option (Read Value)) (n i : ℕ) (left : i < n) (bs : List ℕ) (len : ℕ) (a : Option Place) (all : Option (Read (Option (List ℕ)))) (so_far : joined (text_at bs a) (all_seen (several one (n - i) (drop len bs))) ≡ all) where
  next : n - i ≡ suc (n - (i + 1))
  next = omega arith

  here : joined (text_at bs a) (all_seen (several one (suc (n - (i + 1))) (drop len bs))) ≡ all
  here = ap (λ k. joined (text_at bs a) (all_seen (several one k (drop len bs)))) (sym next) ∙ so_far

  pub turn_more : (w : Walk) → told_walk (take (length bs - len) (drop len bs)) (Some w) ≡ seen (one (take (length bs - len) (drop len bs))) →
      joined (text_at bs (or_else a (moved len w.error))) (all_seen (several one (n - (i + 1)) (drop (len + w.len) bs))) ≡ all
  turn_more w h = walk_more one (n - (i + 1)) bs len w.len a w.error (subst (λ l. told_walk l (Some w) ≡ seen (one l)) (take_rest bs len) h) ∙ here

  pub turn_stops : None ≡ seen (one (take (length bs - len) (drop len bs))) → None ≡ all
  turn_stops h =
      ap (joined (text_at bs a)) (sym (several_stops one (n - (i + 1)) (drop len bs) (subst (λ l. None ≡ seen (one l)) (take_rest bs len) h))) ∙ here

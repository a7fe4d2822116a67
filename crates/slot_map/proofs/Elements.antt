-- A value that was read, by its first token, and the elements of an array, one by one.
use Rattle.std.proofs.Common.{◌≡◌, ℕ, zero, suc, List, drop, IsOkAnd, Some, None, Ok, Err, Option, Result, sym, refl, ap, ◌∙◌, subst}
use Rattle.std.proofs.lemmas.Option.{none-some}
use Rattle.std.specs.Result.{result_ok}
use Rattle.resp.proofs.Shared.{same_value, same_rest}
use Rattle.resp.specs.Read.{Read, read, then}
use Rattle.resp.specs.Reading.{whole, elements, head, several, completed, value}
use Rattle.resp.specs.Told.{part, shown, told, seen, told_walk, text_at}
use Rattle.resp.specs.Value.{Value, simple_string, simple_error, integer, bulk_string, null, array, Values, none, more, first_error}
use Rattle.resp.specs.declared.place.Head.{Head}
use Rattle.resp.specs.declared.place.Head.TheVariants.{Simple, Error, Integer, Bulk, Nil, Array}
use Rattle.resp.specs.declared.place.Token.{Token}
use Rattle.resp.specs.declared.place.Walk.{Walk}
use Rattle.slot_map.specs.Answer.{array_of}
use Rattle.slot_map.specs.Elements.{Onward, Come, Gives}
use Rattle.slot_map.specs.Front.{Begins, Follow}
use Rattle.slot_map.specs.declared.topology.elements.Elements.{Elements}
use Rattle.std.specs.Borrow.{Bor}
use Rattle.errors.specs.declared.redis_error.Refusal.{Refusal}

-- the elements of an array
pub record Laid (d n : ℕ) (bs behind : List ℕ) (v : Value) : Type 0 where
  pub values : Values
  pub is : v ≡ array values
  pub follow : Follow d n bs values behind

whole_read : (d : ℕ) (bs rest behind : List ℕ) (w v : Value) → read (whole w) rest ≡ head bs → Begins d bs v behind → (v ≡ w) × (rest ≡ behind)
unfolding Begins
whole_read zero bs rest behind w v h e =
    let r : read w rest ≡ read v behind = ap (λ x. then x (completed (λ n l. None))) h ∙ e in
    (sym (same_value r), same_rest r)
whole_read (suc d) bs rest behind w v h e =
    let r : read w rest ≡ read v behind = ap (λ x. then x (completed (several (value d)))) h ∙ e in
    (sym (same_value r), same_rest r)

array_read : (d n : ℕ) (bs rest behind : List ℕ) (v : Value) → read (elements n) rest ≡ head bs → Begins (suc d) bs v behind → Laid d n rest behind v
unfolding Begins Follow
array_read d n bs rest behind v h e = go (several (value d) n rest) refl (ap (λ x. then x (completed (several (value d)))) h ∙ e)
  where
    go : (r : Option (Read Values)) → several (value d) n rest ≡ r → then r (λ vs l. read (array vs) l) ≡ read v behind → Laid d n rest behind v
    go None f k = absurd (none-some _ k)
    go (Some x) f k = record { values = x.value; is = sym (same_value k); follow = f ∙ ap (λ l. read x.value l) (same_rest k) }

-- what a head makes of the value that begins with it
abbrev pub Kind : ℕ → List ℕ → List ℕ → List ℕ → Head → Value → Type 0
Kind d bs rest behind (Simple p) v = v ≡ simple_string (part bs p)
Kind d bs rest behind (Error p) v = v ≡ simple_error (part bs p)
Kind d bs rest behind (Integer z) v = (v ≡ integer z) × (rest ≡ behind)
Kind d bs rest behind (Bulk p) v = v ≡ bulk_string (part bs p)
Kind d bs rest behind Nil v = v ≡ null
Kind d bs rest behind (Array n) v = Laid d n rest behind v

by_head : (d : ℕ) (bs rest behind : List ℕ) (h : Head) (v : Value) → read (shown bs h) rest ≡ head bs → Begins (suc d) bs v behind → Kind d bs rest behind h v
by_head d bs rest behind (Simple p) v e b = (whole_read (suc d) bs rest behind (simple_string (part bs p)) v e b).0
by_head d bs rest behind (Error p) v e b = (whole_read (suc d) bs rest behind (simple_error (part bs p)) v e b).0
by_head d bs rest behind (Integer z) v e b = whole_read (suc d) bs rest behind (integer z) v e b
by_head d bs rest behind (Bulk p) v e b = (whole_read (suc d) bs rest behind (bulk_string (part bs p)) v e b).0
by_head d bs rest behind Nil v e b = (whole_read (suc d) bs rest behind null v e b).0
by_head d bs rest behind (Array n) v e b = array_read d n bs rest behind v e b

-- the token that was read
module _ (d : ℕ) (bs behind : List ℕ) (v : Value) (begins : Begins (suc d) bs v behind) where
  pub kind : (t : Token) (h : Head) → told bs (Some t) ≡ head bs → t.head ≡ h → Kind d bs (drop t.len bs) behind h v
  kind t h e is = by_head d bs (drop t.len bs) behind h v (ap (λ x. read (shown bs x) (drop t.len bs)) (sym is) ∙ e) begins

  pub no_token : None ≡ head bs → ⊥
  unfolding Begins
  no_token h = none-some _ (ap (λ x. then x (completed (several (value d)))) h ∙ begins)

-- the next element
pub record Next (d n : ℕ) (bs behind : List ℕ) (vs : Values) : Type 0 where
  pub first : Value
  pub others : Values
  pub rest : List ℕ
  pub is : vs ≡ more first others
  pub here : Begins d bs first rest
  pub follow : Follow d n rest others behind

pub next : (d n : ℕ) (bs behind : List ℕ) (vs : Values) → Follow d (suc n) bs vs behind → Next d n bs behind vs
unfolding Begins Follow
next d n bs behind vs e = go (value d bs) refl e
  where
    onward : (x : Read Value) → value d bs ≡ Some x → (r : Option (Read Values)) → several (value d) n x.rest ≡ r → then r (λ ws l. read (more x.value ws) l) ≡ read vs behind → Next d n bs behind vs
    onward x f None g k = absurd (none-some _ k)
    onward x f (Some y) g k = record {
      first = x.value;
      others = y.value;
      rest = x.rest;
      is = sym (same_value k);
      here = f;
      follow = g ∙ ap (λ l. read y.value l) (same_rest k);
    }

    go : (r : Option (Read Value)) → value d bs ≡ r → then r (λ w rest. then (several (value d) n rest) (λ ws l. read (more w ws) l)) ≡ read vs behind → Next d n bs behind vs
    go None f k = absurd (none-some _ k)
    go (Some x) f k = onward x f (several (value d) n x.rest) refl k

pub none_left : (d : ℕ) (bs behind : List ℕ) (vs : Values) → Follow d 0 bs vs behind → none ≡ vs
unfolding Follow
none_left d bs behind vs e = same_value e

-- a walk goes over the value that was read
module _ (d : ℕ) (bs rest : List ℕ) (v : Value) (begins : Begins d bs v rest) where
  pub walked : (w : Walk) → told_walk bs (Some w) ≡ seen (value d bs) → drop w.len bs ≡ rest
  unfolding Begins
  walked w h =
      let r : read (text_at bs w.error) (drop w.len bs) ≡ read (first_error v) rest = h ∙ ap seen begins in
      same_rest r

  pub no_walk : None ≡ seen (value d bs) → ⊥
  unfolding Begins
  no_walk h = none-some _ (h ∙ ap seen begins)

other_kind : (d : ℕ) (bs rest behind : List ℕ) (v : Value) (h : Head) → ((n : ℕ) → h ≡ Array n → ⊥) → Kind d bs rest behind h v → array_of v ≡ None
other_kind d bs rest behind v (Simple p) lacks k = ap array_of k
other_kind d bs rest behind v (Error p) lacks k = ap array_of k
other_kind d bs rest behind v (Integer z) lacks k = ap array_of k.0
other_kind d bs rest behind v (Bulk p) lacks k = ap array_of k
other_kind d bs rest behind v Nil lacks k = ap array_of k
other_kind d bs rest behind v (Array n) lacks k = absurd (lacks n refl)

pub no_array : (d : ℕ) (bs behind : List ℕ) (v : Value) → Begins (suc d) bs v behind → (t : Token) → told bs (Some t) ≡ head bs → ((n : ℕ) → t.head ≡ Array n → ⊥) → array_of v ≡ None
no_array d bs behind v begins t found lacks = other_kind d bs (drop t.len bs) behind v t.head lacks (kind d bs behind v begins t t.head found refl)

-- the next of the elements that come, and the others
pub record Turn (d : ℕ) (bs : List ℕ) (f : Elements) (vs : Values) (behind : List ℕ) : Type 0 where
  pub first : Value
  pub others : Values
  pub rest : List ℕ
  pub is : vs ≡ more first others
  pub here : Begins d bs first rest
  pub follow : Follow d f.count rest others behind
  pub come : Come d f others behind

module _ {d : ℕ} {e : Elements} {vs : Values} {behind : List ℕ} (come : Come d e vs behind) (f : Elements) where
  pub no_more : Gives e None f → none ≡ vs
  no_more h = none_left d come.front behind vs (subst (λ n. Follow d n come.front vs behind) h come.follow)

  module _ (r : Result (Bor (List ℕ)) Refusal) (gives : Gives e (Some r) f) where
    next_one : Next d f.count come.front behind vs
    next_one = next d f.count come.front behind vs (subst (λ n. Follow d n come.front vs behind) gives.0 come.follow)

    starts : Onward e.depth e.handed e.bytes.now come.front
    starts = subst (λ k. Onward k e.handed e.bytes.now come.front) (sym come.deep) come.onward

    found : IsOkAnd r (λ x. x.now ≡ come.front)
    found = gives.2 come.front starts

    passed : Onward d f.handed f.bytes.now next_one.rest
    passed =
        let here = subst (λ k. Begins k come.front next_one.first next_one.rest) (sym come.deep) next_one.here in
        subst (λ k. Onward k f.handed f.bytes.now next_one.rest) come.deep (gives.3 come.front next_one.rest next_one.first starts here)

  never : (x : Refusal) → Gives e (Some (Err x)) f → ⊥
  never x gives = found (Err x) gives

  pub never_as : (r : Result (Bor (List ℕ)) Refusal) {x : Refusal} → r ≡ Err x → Gives e (Some r) f → ⊥
  never_as r {x} is gives = never x (subst (λ s. Gives e (Some s) f) is gives)

  turn : (x : Bor (List ℕ)) → Gives e (Some (Ok x)) f → Turn d x.now f vs behind
  turn x gives =
      let n = next_one (Ok x) gives in
      record {
        first = n.first;
        others = n.others;
        rest = n.rest;
        is = n.is;
        here = subst (λ l. Begins d l n.first n.rest) (sym (found (Ok x) gives)) n.here;
        follow = n.follow;
        come = record { deep = gives.1 ∙ come.deep; front = n.rest; onward = passed (Ok x) gives; follow = n.follow };
      }

  pub turn_as : {r : Result (Bor (List ℕ)) Refusal} {x : Bor (List ℕ)} → r ≡ Ok x → Gives e (Some r) f → Turn d x.now f vs behind
  turn_as {r} {x} is gives = turn x (subst (λ s. Gives e (Some s) f) is gives)

  -- the same where only an element is passed on
  pub turn_ok : (r : Result (Bor (List ℕ)) Refusal) → Gives e (Some r) f → (x : Bor (List ℕ)) → Some x ≡ result_ok r → Turn d x.now f vs behind
  turn_ok (Ok y) gives x h = let same : y ≡ x = cc in subst (λ z. Turn d z.now f vs behind) same (turn y gives)
  turn_ok (Err y) gives x h = absurd (none-some _ (sym h))

  pub never_ok : (r : Result (Bor (List ℕ)) Refusal) → Gives e (Some r) f → None ≡ result_ok r → ⊥
  never_ok (Ok y) gives h = none-some _ h
  never_ok (Err y) gives h = never y gives

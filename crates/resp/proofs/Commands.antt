-- The words of a command, one bulk string at a time.
use Rattle.std.proofs.Common.{◌≡◌, ℕ, suc, ◌+◌, ◌-◌, ◌<◌, ◌≤◌, Bool, true, false, cond, eqb, List, [], ◌∷◌, ◌++◌, length, drop, Some, None, Option, sym, refl, ap, ◌∙◌, subst, append_assoc, append-nil, arith, length-append}
use Rattle.std.proofs.lemmas.List.{length-drop, length-take-le}
use Rattle.std.proofs.lemmas.Bool.{le-leb, lt-ltb}
use Rattle.std.proofs.lemmas.Bool.Decides.{nat_tests}
use Rattle.std.specs.Option.{option_or}
use Rattle.resp.specs.Command.{consed, words, lawful, alone, Told}
use Rattle.resp.specs.Read.{Read, read, then}
use Rattle.resp.specs.Reading.{whole, elements, head, several, completed, value}
use Rattle.resp.specs.Told.{part, shown, told, text_at, Inside, Errs}
use Rattle.resp.specs.Value.{Value, simple_string, simple_error, integer, bulk_string, null, array, Values, more}
use Rattle.resp.specs.declared.place.Head.{Head}
use Rattle.resp.specs.declared.place.Head.TheVariants.{Simple, Error, Integer, Bulk, Nil, Array}
use Rattle.resp.specs.declared.place.Place.{Place}
use Rattle.resp.specs.declared.place.Token.{Token}
use Rattle.resp.specs.declared.place.Command.{Command}

-- the words among some elements that were read
abbrev with_rest : Option (List (List ℕ)) → List ℕ → Option (Read (List (List ℕ)))
with_rest None rest = None
with_rest (Some ws) rest = read ws rest

abbrev pub listed : Option (Read Values) → Option (Read (List (List ℕ)))
listed None = None
listed (Some x) = with_rest (words x.value) x.rest

-- behind words that were read before
abbrev pub after : List (List ℕ) → Option (Read (List (List ℕ))) → Option (Read (List (List ℕ)))
after ws None = None
after ws (Some x) = read (ws ++ x.value) x.rest

abbrev pub judged : Option (Read (List (List ℕ))) → Option (List (List ℕ))
judged None = None
judged (Some x) = cond (eqb (length x.rest) 0) (lawful (Some x.value)) None

no_cond : (b : Bool) → cond b (lawful None) None ≡ None
no_cond true = refl
no_cond false = refl

after_after : (ws us : List (List ℕ)) (r : Option (Read (List (List ℕ)))) → after ws (after us r) ≡ after (ws ++ us) r
after_after ws us None = refl
after_after ws us (Some x) = ap (λ l. read l x.rest) (sym (append_assoc ws us x.value))

after_none : (r : Option (Read (List (List ℕ)))) → after [] r ≡ r
after_none None = refl
after_none (Some x) = refl

-- one element, by what it begins with
module _ (bs rest : List ℕ) (k : ℕ) where
  all : Option (Read Value) → Option (Read (List (List ℕ)))
  all r = listed (then r (λ v behind. then (several (value 0) k behind) (λ vs last. read (more v vs) last)))

  first_word : (t : List ℕ) (r : Option (Read Values)) → listed (then r (λ vs last. read (more (bulk_string t) vs) last)) ≡ after (t ∷ []) (listed r)
  first_word t None = refl
  first_word t (Some x) = go (words x.value)
    where
      go : (ws : Option (List (List ℕ))) → with_rest (consed t ws) x.rest ≡ after (t ∷ []) (with_rest ws x.rest)
      go None = refl
      go (Some us) = refl

  no_word : (v : Value) → ((vs : Values) → words (more v vs) ≡ None) → (r : Option (Read Values)) → listed (then r (λ vs last. read (more v vs) last)) ≡ None
  no_word v lacks None = refl
  no_word v lacks (Some x) = ap (λ o. with_rest o x.rest) (lacks x.value)

  pub bulk_next : (t : List ℕ) → read (whole (bulk_string t)) rest ≡ head bs → listed (several (value 0) (suc k) bs) ≡ after (t ∷ []) (listed (several (value 0) k rest))
  bulk_next t e =
      ap (λ h. listed (then (then h (completed (λ n behind. None))) (λ v behind. then (several (value 0) k behind) (λ vs last. read (more v vs) last)))) (sym e)
      ∙ first_word t (several (value 0) k rest)

  other : (v : Value) → ((vs : Values) → words (more v vs) ≡ None) → read (whole v) rest ≡ head bs → listed (several (value 0) (suc k) bs) ≡ None
  other v lacks e =
      ap (λ h. listed (then (then h (completed (λ n behind. None))) (λ w behind. then (several (value 0) k behind) (λ vs last. read (more w vs) last)))) (sym e)
      ∙ no_word v lacks (several (value 0) k rest)

  pub other_next : (h : Head) → ((p : Place) → h ≡ Bulk p → ⊥) → read (shown bs h) rest ≡ head bs → listed (several (value 0) (suc k) bs) ≡ None
  other_next (Simple p) lacks e = other (simple_string (part bs p)) (λ vs. refl) e
  other_next (Error p) lacks e = other (simple_error (part bs p)) (λ vs. refl) e
  other_next (Integer z) lacks e = other (integer z) (λ vs. refl) e
  other_next (Bulk p) lacks e = absurd (lacks p refl)
  other_next Nil lacks e = other null (λ vs. refl) e
  other_next (Array n) lacks e = ap (λ h. listed (then (then h (completed (λ m behind. None))) (λ w behind. then (several (value 0) k behind) (λ vs last. read (more w vs) last)))) (sym e)

  pub none_next : None ≡ head bs → listed (several (value 0) (suc k) bs) ≡ None
  none_next e = ap (λ h. listed (then (then h (completed (λ m behind. None))) (λ w behind. then (several (value 0) k behind) (λ vs last. read (more w vs) last)))) (sym e)

-- the whole, by what it begins with
module _ (bs rest : List ℕ) where
  pub array_judged : (n : ℕ) → read (elements n) rest ≡ head bs → judged (after [] (listed (several (value 0) n rest))) ≡ alone (value 1 bs)
  array_judged n e = ap judged (after_none (listed (several (value 0) n rest))) ∙ go (several (value 0) n rest) ∙ ap (λ h. alone (then h (completed (several (value 0))))) e
    where
      go : (r : Option (Read Values)) → judged (listed r) ≡ alone (then r (λ vs last. read (array vs) last))
      go None = refl
      go (Some x) = with_words (words x.value)
        where
          with_words : (ws : Option (List (List ℕ))) → judged (with_rest ws x.rest) ≡ cond (eqb (length x.rest) 0) (lawful ws) None
          with_words None = sym (no_cond (eqb (length x.rest) 0))
          with_words (Some us) = refl

-- the first of the words that were read
abbrev pub first_of : List (List ℕ) → Option (List ℕ)
first_of [] = None
first_of (w ∷ ws) = Some w

-- what the loop keeps: i of n words were read, the first of them placed in `ws`, and the rest is to come
pub record Sofar (bs ws : List ℕ) (n i : ℕ) (first : Option Place) (rest : List ℕ) : Type 0 where
  pub read_before : List (List ℕ)
  pub as_many : length read_before ≡ i
  pub front : text_at ws first ≡ first_of read_before
  pub begins : i ≡ 0 → rest ≡ ws
  pub inside : Errs (length ws) first
  pub comes : judged (after read_before (listed (several (value 0) (n - i) rest))) ≡ alone (value 1 bs)

pub sofar_begins : (bs ws : List ℕ) (t : Token) (n : ℕ) → told bs (Some t) ≡ head bs → t.head ≡ Array n → ws ≡ drop t.len bs → Sofar bs ws n 0 None ws
sofar_begins bs ws t n found is here =
    let all : n - 0 ≡ n = omega arith in
    record {
      read_before = [];
      as_many = refl;
      front = refl;
      begins = λ z. refl;
      inside = tt;
      comes =
          ap (λ l. judged (after [] (listed (several (value 0) (n - 0) l)))) here
          ∙ ap (λ k. judged (after [] (listed (several (value 0) k (drop t.len bs))))) all
          ∙ array_judged bs (drop t.len bs) n (ap (λ h. read (shown bs h) (drop t.len bs)) (sym is) ∙ found);
    }

module _ (bs ws : List ℕ) (n i : ℕ) (first : Option Place) (rest : List ℕ) (left : i < n) (so_far : Sofar bs ws n i first rest) where
  next : n - i ≡ suc (n - (i + 1))
  next = omega arith

  here : judged (after so_far.read_before (listed (several (value 0) (suc (n - (i + 1))) rest))) ≡ alone (value 1 bs)
  here = ap (λ k. judged (after so_far.read_before (listed (several (value 0) k rest)))) (sym next) ∙ so_far.comes

  stops : listed (several (value 0) (suc (n - (i + 1))) rest) ≡ None → alone (value 1 bs) ≡ None
  stops e = sym here ∙ ap (λ r. judged (after so_far.read_before r)) e

  pub stops_at_none : None ≡ head rest → alone (value 1 bs) ≡ None
  stops_at_none e = stops (none_next rest [] (n - (i + 1)) e)

  module _ (t : Token) (found : told rest (Some t) ≡ head rest) where
    pub stops_at_other : ((p : Place) → t.head ≡ Bulk p → ⊥) → alone (value 1 bs) ≡ None
    stops_at_other lacks = stops (other_next rest (drop t.len rest) (n - (i + 1)) t.head lacks found)

    pub word_more : (p : Place) → t.head ≡ Bulk p → Inside (length rest) p → (behind : List ℕ) → behind ≡ drop t.len rest → Sofar bs ws n (i + 1) (option_or first (Some p)) behind
    word_more p is lies behind e =
        let us = so_far.read_before in
        let w = part rest p in
        record {
          read_before = us ++ (w ∷ []);
          as_many = length-append us (w ∷ []) ∙ ap (λ k. k + 1) so_far.as_many;
          front = go us first so_far.as_many so_far.front;
          begins = λ z. absurd (omega arith);
          inside = stays us first so_far.as_many so_far.front so_far.inside;
          comes =
              ap (λ l. judged (after (us ++ (w ∷ [])) (listed (several (value 0) (n - (i + 1)) l)))) e
              ∙ ap judged (sym (after_after us (w ∷ []) (listed (several (value 0) (n - (i + 1)) (drop t.len rest)))))
              ∙ ap (λ r. judged (after us r)) (sym (bulk_next rest (drop t.len rest) (n - (i + 1)) w (ap (λ h. read (shown rest h) (drop t.len rest)) (sym is) ∙ found)))
              ∙ here;
        }
      where
        go : (us : List (List ℕ)) (f : Option Place) → length us ≡ i → text_at ws f ≡ first_of us → text_at ws (option_or f (Some p)) ≡ first_of (us ++ (part rest p ∷ []))
        go [] None e h = ap (λ l. Some (part l p)) (sym (so_far.begins (sym e)))
        go [] (Some q) e h = cc
        go (u ∷ us) None e h = cc
        go (u ∷ us) (Some q) e h = h

        stays : (us : List (List ℕ)) (f : Option Place) → length us ≡ i → text_at ws f ≡ first_of us → Errs (length ws) f → Errs (length ws) (option_or f (Some p))
        stays [] None e h k = subst (λ l. Inside (length l) p) (so_far.begins (sym e)) lies
        stays (u ∷ us) None e h k = cc
        stays us (Some q) e h k = k

too_many : (ws : List (List ℕ)) → 64 < length ws → lawful (Some ws) ≡ None
too_many [] h = refl
too_many (w ∷ ws) h = grind (arith, nat_tests)

same_text : {t u : List ℕ} → Some t ≡ Some u → t ≡ u
same_text h = cc

-- all words were read
module _ (bs ws : List ℕ) (n i : ℕ) (first : Option Place) (rest : List ℕ) (over : n ≤ i) (same : i ≤ n) (so_far : Sofar bs ws n i first rest) where
  all_read : cond (eqb (length rest) 0) (lawful (Some so_far.read_before)) None ≡ alone (value 1 bs)
  all_read =
      let zero_left : n - i ≡ 0 = omega arith in
      ap (λ l. cond (eqb (length rest) 0) (lawful (Some l)) None) (sym (append-nil so_far.read_before))
      ∙ ap (λ k. judged (after so_far.read_before (listed (several (value 0) k rest)))) (sym zero_left)
      ∙ so_far.comes

  as_many_words : length so_far.read_before ≡ n
  as_many_words = omega (arith, so_far.as_many)

  pub refused_more : false ≡ eqb (length rest) 0 → alone (value 1 bs) ≡ None
  refused_more some = sym all_read ∙ ap (λ b. cond b (lawful (Some so_far.read_before)) None) (sym some)

  refused : lawful (Some so_far.read_before) ≡ None → alone (value 1 bs) ≡ None
  refused e = sym all_read ∙ ap (λ o. cond (eqb (length rest) 0) o None) e ∙ no_cond (eqb (length rest) 0)

  pub refused_many : 64 < n → alone (value 1 bs) ≡ None
  refused_many h = refused (too_many so_far.read_before (omega (arith, as_many_words)))

  module _ (p : Place) (found : first ≡ Some p) where
    inside : Inside (length ws) p
    inside = subst (Errs (length ws)) found so_far.inside

    text : Some (part ws p) ≡ first_of so_far.read_before
    text = ap (text_at ws) (sym found) ∙ so_far.front

    wide : length (part ws p) ≡ p.end - p.start
    wide = length-take-le (p.end - p.start) (drop p.start ws) (omega (arith, length-drop p.start ws, inside))

    pub refused_empty : p.start ≡ p.end → alone (value 1 bs) ≡ None
    refused_empty h = refused (go so_far.read_before text)
      where
        go : (us : List (List ℕ)) → Some (part ws p) ≡ first_of us → lawful (Some us) ≡ None
        go [] e = refl
        go (u ∷ us) e =
            let short : length u ≡ 0 = ap length (sym (same_text e)) ∙ wide ∙ omega arith in
            grind (arith, nat_tests)

    pub granted : (c : Command) → c.count ≡ n → part bs c.first ≡ part ws p → true ≡ eqb (length rest) 0 → n ≤ 64 → (p.start ≡ p.end → ⊥) → Told bs (alone (value 1 bs)) (Some c)
    granted c count_is moved done few apart = subst (λ o. Told bs o (Some c)) (ap (λ b. cond b (lawful (Some so_far.read_before)) None) done ∙ all_read) (go so_far.read_before as_many_words text)
      where
        go : (us : List (List ℕ)) → length us ≡ n → Some (part ws p) ≡ first_of us → Told bs (lawful (Some us)) (Some c)
        go [] e h = cc
        go (u ∷ us) e h =
            let long : 0 < length u = omega (arith, ap length (same_text h), wide, inside) in
            let fit : length (u ∷ us) ≤ 64 = omega arith in
            let is : lawful (Some (u ∷ us)) ≡ Some (u ∷ us) = rw (lt-ltb 0 (length u) long, le-leb (length (u ∷ us)) 64 fit) in
            subst (λ o. Told bs o (Some c)) (sym is) (c, refl, count_is ∙ sym e, moved ∙ same_text h)

pub told_none : (bs : List ℕ) (o : Option (List (List ℕ))) → o ≡ None → Told bs o None
told_none bs o e = subst (λ p. Told bs p None) (sym e) refl

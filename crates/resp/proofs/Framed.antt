-- A command is read just where the bytes stand for one.
use Rattle.std.proofs.Common.{◌≡◌, ℕ, ◌<◌, ◌≤◌, Bool, true, false, cond, ◌&&◌, eqb, ltb, leb, List, [], ◌∷◌, length, Some, None, Option, sym, refl, ap, ◌∙◌, subst, append-nil, arith}
use Rattle.std.proofs.lemmas.List.{nil_from_length}
use Rattle.std.proofs.lemmas.Bool.{eqb-true, leb-true, ltb-true, lt-ltb, le-leb, and_parts}
use Rattle.resp.proofs.Readings.{value_sound, value_complete}
use Rattle.resp.specs.Command.{bulks, Commands, consed, words, lawful, elements_of, alone, command, Told, Commanded}
use Rattle.resp.specs.Read.{Read, read}
use Rattle.resp.specs.Reading.{value}
use Rattle.resp.specs.Standing.{Stands}
use Rattle.resp.specs.Value.{Value, simple_string, simple_error, integer, bulk_string, null, array, Values, none, more, deepest}
use Rattle.resp.specs.declared.place.Command.{Command}

none_some : {A : Type 0} {x : A} → None ≡ Some x → ⊥
none_some e = let z : ◌≡◌ {A = ℕ} 0 1 = cc in omega arith

consed_some : (t : List ℕ) (o : Option (List (List ℕ))) (ws : List (List ℕ)) → consed t o ≡ Some ws → (us : List (List ℕ)) × (o ≡ Some us) × (ws ≡ t ∷ us)
consed_some t None ws e = absurd (none_some e)
consed_some t (Some us) ws e = (us, refl, cc)

words_bulks : (vs : Values) (ws : List (List ℕ)) → words vs ≡ Some ws → vs ≡ bulks ws
words_bulks none ws e = let nil : ws ≡ [] = cc in ap bulks (sym nil)
words_bulks (more (simple_string t) vs) ws e = absurd (none_some e)
words_bulks (more (simple_error t) vs) ws e = absurd (none_some e)
words_bulks (more (integer z) vs) ws e = absurd (none_some e)
words_bulks (more (bulk_string t) vs) ws e =
    let c = consed_some t (words vs) ws e in
    ap (more (bulk_string t)) (words_bulks vs c.0 c.1) ∙ ap bulks (sym c.2)
words_bulks (more null vs) ws e = absurd (none_some e)
words_bulks (more (array us) vs) ws e = absurd (none_some e)

bulks_words : (ws : List (List ℕ)) → words (bulks ws) ≡ Some ws
bulks_words [] = refl
bulks_words (w ∷ ws) = ap (consed w) (bulks_words ws)

bulks_flat : (ws : List (List ℕ)) → deepest (bulks ws) ≤ 0
bulks_flat [] = omega arith
bulks_flat (w ∷ ws) = let h = bulks_flat ws in omega arith

cond_some : {A : Type 0} (b : Bool) (p : Option A) (x : A) → cond b p None ≡ Some x → (b ≡ true) × (p ≡ Some x)
cond_some true p x e = (refl, e)
cond_some false p x e = absurd (none_some e)

lawful_some : (o : Option (List (List ℕ))) (w : List ℕ) (ws : List (List ℕ)) → lawful o ≡ Some (w ∷ ws) → (o ≡ Some (w ∷ ws)) × (0 < length w) × (length (w ∷ ws) ≤ 64)
lawful_some None w ws e = absurd (none_some e)
lawful_some (Some []) w ws e = absurd (none_some e)
lawful_some (Some (u ∷ us)) w ws e =
    let c = cond_some (ltb 0 (length u) && leb (length (u ∷ us)) 64) (Some (u ∷ us)) (w ∷ ws) e in
    let both = and_parts (ltb 0 (length u)) (leb (length (u ∷ us)) 64) c.0 in
    let same : u ∷ us ≡ w ∷ ws = cc in
    let first : u ≡ w = cc in
    (c.1, omega (arith, ltb-true 0 (length u) both.0, ap length first), omega (arith, leb-true (length (u ∷ us)) 64 both.1, ap length same))

module _ (w : List ℕ) (ws : List (List ℕ)) where
  elements_some : (v : Value) → elements_of v ≡ Some (w ∷ ws) → (vs : Values) × (v ≡ array vs) × (lawful (words vs) ≡ Some (w ∷ ws))
  elements_some (simple_string t) e = absurd (none_some e)
  elements_some (simple_error t) e = absurd (none_some e)
  elements_some (integer z) e = absurd (none_some e)
  elements_some (bulk_string t) e = absurd (none_some e)
  elements_some null e = absurd (none_some e)
  elements_some (array vs) e = (vs, refl, e)

  alone_some : (r : Option (Read Value)) → alone r ≡ Some (w ∷ ws) → (vs : Values) × (r ≡ read (array vs) []) × (lawful (words vs) ≡ Some (w ∷ ws))
  alone_some None e = absurd (none_some e)
  alone_some (Some x) e =
      let c = cond_some (eqb (length x.rest) 0) (elements_of x.value) (w ∷ ws) e in
      let a = elements_some x.value c.1 in
      (a.0, ap (λ v. read v x.rest) a.1 ∙ ap (read (array a.0)) (nil_from_length x.rest (eqb-true (length x.rest) 0 c.0)), a.2)

  command_sound : (bs : List ℕ) → command bs ≡ Some (w ∷ ws) → Commands (w ∷ ws) bs
  command_sound bs e =
      let c = cond_some (leb (length bs) 16384) (alone (value 1 bs)) (w ∷ ws) e in
      let a = alone_some (value 1 bs) c.1 in
      let l = lawful_some (words a.0) w ws a.2 in
      let f = value_sound 1 bs [] (array a.0) a.1 in
      let same = words_bulks a.0 (w ∷ ws) l.0 in
      let stands = subst (λ vs. Stands (array vs) f.0) same f.2 in
      (l.1, l.2, leb-true (length bs) 16384 c.0, subst (Stands (array (bulks (w ∷ ws)))) (sym (append-nil f.0) ∙ sym f.1) stands)

command_complete : (ws : List (List ℕ)) (bs : List ℕ) → Commands ws bs → command bs ≡ Some ws
command_complete [] bs h = absurd h
command_complete (w ∷ ws) bs h =
    let flat = bulks_flat (w ∷ ws) in
    let there = ap (value 1) (sym (append-nil bs)) ∙ value_complete 1 bs [] (array (bulks (w ∷ ws))) h.3 (omega arith) in
    ap (λ b. cond b (alone (value 1 bs)) None) (le-leb (length bs) 16384 h.2)
    ∙ ap alone there ∙ ap lawful (bulks_words (w ∷ ws)) ∙ rw (lt-ltb 0 (length w) h.0, le-leb (length (w ∷ ws)) 64 h.1)

pub commanded : (bs : List ℕ) (r : Option Command) → Told bs (command bs) r → Commanded bs r
commanded bs r told = go (command bs) refl told
  where
    go : (o : Option (List (List ℕ))) → command bs ≡ o → Told bs o r → Commanded bs r
    go None e t = subst (Commanded bs) (sym t) (λ ws h. none_some (sym e ∙ command_complete ws bs h))
    go (Some []) e t = absurd t
    go (Some (w ∷ ws)) e t = subst (Commanded bs) (sym t.1) (w, ws, command_sound w ws bs e, t.2, t.3)

pub told_short : (bs : List ℕ) (r : Option Command) → length bs ≤ 16384 → Told bs (alone (value 1 bs)) r → Told bs (command bs) r
told_short bs r h t = rw (le-leb (length bs) 16384 h) t

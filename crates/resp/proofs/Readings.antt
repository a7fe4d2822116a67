-- Reading and standing for a value are one: heads, and whole values.
use Rattle.std.proofs.Common.{◌≡◌, ℕ, zero, suc, ◌≤◌, max, true, cond, eqb, leb, List, [], ◌∷◌, ◌++◌, length, take, drop, ℤ, Some, None, Option, sym, refl, ap, ◌∙◌, subst, inl, inr, ⊎_elim, append_assoc, arith, length-append}
use Rattle.std.proofs.lemmas.List.{take_at, drop_at, take-append-drop, length-drop, length-take-le, append_cancel_right}
use Rattle.std.proofs.lemmas.Bool.{eqb-true, le-leb, and_parts, false≢true}
use Rattle.resp.proofs.Shared.{same_value, same_rest}
use Rattle.resp.proofs.Standings.{none_read, then_read, cond_read, closed_read, line_sound, line_complete, natural_plain, natural_digit, signed_plain}
use Rattle.resp.specs.Line.{closed, line}
use Rattle.resp.specs.Number.{natural, signed}
use Rattle.resp.specs.Read.{Read, read, then}
use Rattle.resp.specs.Reading.{Head, whole, elements, minus_one, bounded, size, texted, valued, bulk, counted, kinds, announced, head, several, completed, value}
use Rattle.resp.specs.Standing.{crlf, Plain, Stands, Follow, Sound, Complete, Unambiguous}
use Rattle.resp.specs.Value.{Value, simple_string, simple_error, integer, bulk_string, null, array, Values, none, more, count, depth, deepest}

-- what stands in front of rest
abbrev Begins : Head → List ℕ → List ℕ → Type 0
Begins (whole v) bs rest = (front : List ℕ) × (bs ≡ front ++ rest) × Stands v front × (depth v ≤ 0)
Begins (elements n) bs rest = (ds : List ℕ) × (natural ds ≡ Some n) × (bs ≡ 42 ∷ (ds ++ (crlf ++ rest)))

-- a line as the front of the bytes behind it
front_line : (k : ℕ) (t rest : List ℕ) → k ∷ (t ++ (crlf ++ rest)) ≡ (k ∷ (t ++ crlf)) ++ rest
front_line k t rest = ap (λ l. k ∷ l) (sym (append_assoc t crlf rest))

-- lengths
minus_one_is : (t : List ℕ) → minus_one t ≡ true → t ≡ 45 ∷ 49 ∷ []
minus_one_is [] e = absurd (false≢true e)
minus_one_is (c ∷ []) e = absurd (false≢true e)
minus_one_is (c ∷ d ∷ []) e = let both = and_parts (eqb c 45) (eqb d 49) e in rw (eqb-true c 45 both.0, eqb-true d 49 both.1)
minus_one_is (c ∷ d ∷ b ∷ t) e = absurd (false≢true e)

abbrev Measures : Option ℕ → List ℕ → List ℕ → Type 0
Measures None bs rest = bs ≡ 45 ∷ 49 ∷ (crlf ++ rest)
Measures (Some n) bs rest = (ds : List ℕ) × (natural ds ≡ Some n) × (bs ≡ ds ++ (crlf ++ rest))

bounded_read : (p : Option ℕ) (behind rest : List ℕ) (o : Option ℕ) → bounded p behind ≡ read o rest → (p ≡ o) × (behind ≡ rest) × ((n : ℕ) × (p ≡ Some n))
bounded_read None behind rest o e = absurd (none_read e)
bounded_read (Some n) behind rest o e =
    ⊎_elim (λ h. (same_value h.1, same_rest h.1, (n, refl))) (λ h. absurd (none_read h.1)) (cond_read (leb n (length behind)) (read (Some n) behind) None o rest e)

size_sound : (bs rest : List ℕ) (o : Option ℕ) → size bs ≡ read o rest → Measures o bs rest
size_sound bs rest o e = go (then_read (line bs) (λ t behind. cond (minus_one t) (read None behind) (bounded (natural t) behind)) o rest e)
  where
    nil : (t behind : List ℕ) → bs ≡ t ++ (crlf ++ behind) → minus_one t ≡ true → read None behind ≡ read o rest → Measures o bs rest
    nil t behind is minus got =
        subst (λ p. Measures p bs rest) (same_value got)
        (is ∙ ap (λ l. l ++ (crlf ++ behind)) (minus_one_is t minus) ∙ ap (λ l. 45 ∷ 49 ∷ (crlf ++ l)) (same_rest got))

    some : (t behind : List ℕ) → bs ≡ t ++ (crlf ++ behind) → bounded (natural t) behind ≡ read o rest → Measures o bs rest
    some t behind is got =
        let b = bounded_read (natural t) behind rest o got in
        subst (λ p. Measures p bs rest) (sym b.2.1 ∙ b.0) (t, b.2.1, is ∙ ap (λ l. t ++ (crlf ++ l)) b.1)

    go : (x : Read (List ℕ)) × (line bs ≡ read x.value x.rest) × (cond (minus_one x.value) (read None x.rest) (bounded (natural x.value) x.rest) ≡ read o rest) → Measures o bs rest
    go x =
        let t = x.0.value in
        let behind = x.0.rest in
        let is : bs ≡ t ++ (crlf ++ behind) = (line_sound bs t behind x.1).1 in
        ⊎_elim (λ h. nil t behind is h.0 h.1) (λ h. some t behind is h.1) (cond_read (minus_one t) (read None behind) (bounded (natural t) behind) o rest x.2)

size_complete : (ds rest : List ℕ) (n : ℕ) → natural ds ≡ Some n → n ≤ length rest → size (ds ++ (crlf ++ rest)) ≡ read (Some n) rest
size_complete ds rest n e h =
    ap (λ r. then r (λ t behind. cond (minus_one t) (read None behind) (bounded (natural t) behind))) (line_complete ds rest (natural_plain ds n e))
    ∙ ap (λ b. cond b (read None rest) (bounded (natural ds) rest)) (natural_digit ds n e)
    ∙ ap (λ o. bounded o rest) e ∙ ap (λ b. cond b (read (Some n) rest) None) (le-leb n (length rest) h)

-- heads: what is read stands there
texted_sound : (k : ℕ) (kind : List ℕ → Value) → ((t : List ℕ) → Plain t → Stands (kind t) (k ∷ (t ++ crlf)) × (depth (kind t) ≤ 0)) →
    (bs rest : List ℕ) (h : Head) → texted kind bs ≡ read h rest → Begins h (k ∷ bs) rest
texted_sound k kind stands bs rest h e =
    let x = then_read (line bs) (λ t behind. read (whole (kind t)) behind) h rest e in
    let t = x.0.value in
    let got = line_sound bs t x.0.rest x.1 in
    subst (λ g. Begins g (k ∷ bs) rest) (same_value x.2)
    (k ∷ (t ++ crlf), ap (λ l. k ∷ l) (got.1 ∙ ap (λ l. t ++ (crlf ++ l)) (same_rest x.2)) ∙ front_line k t rest, (stands t got.0).0, (stands t got.0).1)

valued_read : (o : Option ℤ) (behind rest : List ℕ) (h : Head) → valued o behind ≡ read h rest → (z : ℤ) × (o ≡ Some z) × (whole (integer z) ≡ h) × (behind ≡ rest)
valued_read None behind rest h e = absurd (none_read e)
valued_read (Some z) behind rest h e = (z, refl, same_value e, same_rest e)

number_sound : (bs rest : List ℕ) (h : Head) → then (line bs) (λ t behind. valued (signed t) behind) ≡ read h rest → Begins h (58 ∷ bs) rest
number_sound bs rest h e =
    let x = then_read (line bs) (λ t behind. valued (signed t) behind) h rest e in
    let t = x.0.value in
    let v = valued_read (signed t) x.0.rest rest h x.2 in
    let is = (line_sound bs t x.0.rest x.1).1 in
    subst (λ g. Begins g (58 ∷ bs) rest) v.2
    (58 ∷ (t ++ crlf), ap (λ l. 58 ∷ l) (is ∙ ap (λ l. t ++ (crlf ++ l)) v.3) ∙ front_line 58 t rest, (t, v.1, refl), omega arith)

body_fits : (n : ℕ) (behind rest : List ℕ) → drop n behind ≡ crlf ++ rest → length (take n behind) ≡ n
body_fits n behind rest e =
    let left = ap length (sym e) ∙ length-drop n behind in
    length-take-le n behind (omega (arith, left))

bulk_sound : (o : Option ℕ) (bs behind rest : List ℕ) (h : Head) → Measures o bs behind → bulk o behind ≡ read h rest → Begins h (36 ∷ bs) rest
bulk_sound None bs behind rest h m e =
    subst (λ g. Begins g (36 ∷ bs) rest) (same_value e)
    (36 ∷ 45 ∷ 49 ∷ crlf, ap (λ l. 36 ∷ l) (m ∙ ap (λ l. 45 ∷ 49 ∷ (crlf ++ l)) (same_rest e)), inl refl, omega arith)
bulk_sound (Some n) bs behind rest h m e =
    let x = then_read (closed (take n behind) (drop n behind)) (λ t last. read (whole (bulk_string t)) last) h rest e in
    let c = closed_read (take n behind) (drop n behind) x.0.value x.0.rest x.1 in
    let t = take n behind in
    let ds = m.0 in
    let last : drop n behind ≡ crlf ++ rest = c.1 ∙ ap (λ l. crlf ++ l) (same_rest x.2) in
    let body : behind ≡ t ++ (crlf ++ rest) = sym (take-append-drop n behind) ∙ ap (λ l. t ++ l) last in
    subst (λ g. Begins g (36 ∷ bs) rest) (ap (λ l. whole (bulk_string l)) (sym c.0) ∙ same_value x.2) (
      36 ∷ (ds ++ (crlf ++ (t ++ crlf))),
      ap (λ l. 36 ∷ l) (m.2 ∙ ap (λ l. ds ++ (crlf ++ l)) body) ∙ simp append_assoc,
      (ds, m.1 ∙ ap Some (sym (body_fits n behind rest last)), refl),
      omega arith,
    )

counted_sound : (o : Option ℕ) (bs behind rest : List ℕ) (h : Head) → Measures o bs behind → counted o behind ≡ read h rest → Begins h (42 ∷ bs) rest
counted_sound None bs behind rest h m e =
    subst (λ g. Begins g (42 ∷ bs) rest) (same_value e)
    (42 ∷ 45 ∷ 49 ∷ crlf, ap (λ l. 42 ∷ l) (m ∙ ap (λ l. 45 ∷ 49 ∷ (crlf ++ l)) (same_rest e)), inr refl, omega arith)
counted_sound (Some n) bs behind rest h m e =
    subst (λ g. Begins g (42 ∷ bs) rest) (same_value e) (m.0, m.1, ap (λ l. 42 ∷ l) (m.2 ∙ ap (λ l. m.0 ++ (crlf ++ l)) (same_rest e)))

sized_sound : (k : ℕ) (f : Option ℕ → List ℕ → Option (Read Head)) →
    ((o : Option ℕ) (bs behind rest : List ℕ) (h : Head) → Measures o bs behind → f o behind ≡ read h rest → Begins h (k ∷ bs) rest) →
    (bs rest : List ℕ) (h : Head) → then (size bs) f ≡ read h rest → Begins h (k ∷ bs) rest
sized_sound k f sound bs rest h e =
    let x = then_read (size bs) f h rest e in
    sound x.0.value bs x.0.rest rest h (size_sound bs x.0.rest x.0.value x.1) x.2

abbrev AllBegin : Head → List ℕ → List ℕ → List (ℕ × Option (Read Head)) → Type 0
AllBegin h bs rest [] = Unit {0}
AllBegin h bs rest (x ∷ xs) = (x.1 ≡ read h rest → Begins h (x.0 ∷ bs) rest) × AllBegin h bs rest xs

announced_sound : (k : ℕ) (bs rest : List ℕ) (h : Head) (xs : List (ℕ × Option (Read Head))) → AllBegin h bs rest xs → announced k xs ≡ read h rest → Begins h (k ∷ bs) rest
announced_sound k bs rest h [] all e = absurd (none_read e)
announced_sound k bs rest h (x ∷ xs) all e =
    ⊎_elim
    (λ g. subst (λ j. Begins h (j ∷ bs) rest) (sym (eqb-true k x.0 g.0)) (all.0 g.1))
    (λ g. announced_sound k bs rest h xs all.1 g.1)
    (cond_read (eqb k x.0) x.1 (announced k xs) h rest e)

head_sound : (bs rest : List ℕ) (h : Head) → head bs ≡ read h rest → Begins h bs rest
head_sound [] rest h e = absurd (none_read e)
head_sound (k ∷ bs) rest h e =
    announced_sound k bs rest h (kinds bs) (
      texted_sound 43 simple_string (λ t p. ((p, refl), omega arith)) bs rest h,
      (
        texted_sound 45 simple_error (λ t p. ((p, refl), omega arith)) bs rest h,
        (number_sound bs rest h, (sized_sound 36 bulk bulk_sound bs rest h, (sized_sound 42 counted counted_sound bs rest h, tt))),
      ),
    )
    e

-- heads: what stands there is read
whole_complete : (v : Value) (front rest : List ℕ) → Stands v front → depth v ≤ 0 → head (front ++ rest) ≡ read (whole v) rest
whole_complete (simple_string t) front rest s h =
    ap (λ l. head (l ++ rest)) s.1 ∙ ap (texted simple_string) (append_assoc t crlf rest)
    ∙ ap (λ r. then r (λ x behind. read (whole (simple_string x)) behind)) (line_complete t rest s.0)
whole_complete (simple_error t) front rest s h =
    ap (λ l. head (l ++ rest)) s.1 ∙ ap (texted simple_error) (append_assoc t crlf rest)
    ∙ ap (λ r. then r (λ x behind. read (whole (simple_error x)) behind)) (line_complete t rest s.0)
whole_complete (integer z) front rest s h =
    ap (λ l. head (l ++ rest)) s.2 ∙ ap (λ l. then (line l) (λ t behind. valued (signed t) behind)) (append_assoc s.0 crlf rest)
    ∙ ap (λ r. then r (λ t behind. valued (signed t) behind)) (line_complete s.0 rest (signed_plain s.0 z s.1))
    ∙ ap (λ o. valued o rest) s.1
whole_complete (bulk_string t) front rest s h =
    let ds = s.0 in
    let flat : (ds ++ (crlf ++ (t ++ crlf))) ++ rest ≡ ds ++ (crlf ++ (t ++ (crlf ++ rest))) = simp append_assoc in
    ap (λ l. head (l ++ rest)) s.2 ∙ ap (λ l. then (size l) bulk) flat
    ∙ ap (λ r. then r bulk) (size_complete ds (t ++ (crlf ++ rest)) (length t) s.1 (omega (arith, length-append t (crlf ++ rest))))
    ∙ ap (λ l. then (closed l (drop (length t) (t ++ (crlf ++ rest)))) (λ x behind. read (whole (bulk_string x)) behind)) (take_at t (crlf ++ rest) (length t) refl)
    ∙ ap (λ l. then (closed t l) (λ x behind. read (whole (bulk_string x)) behind)) (drop_at t (crlf ++ rest) (length t) refl)
whole_complete null front rest (inl s) h = ap (λ l. head (l ++ rest)) s
whole_complete null front rest (inr s) h = ap (λ l. head (l ++ rest)) s
whole_complete (array vs) front rest s h = absurd (omega arith)

elements_complete : (ds rest : List ℕ) (n : ℕ) → natural ds ≡ Some n → n ≤ length rest → head (42 ∷ (ds ++ (crlf ++ rest))) ≡ read (elements n) rest
elements_complete ds rest n e h = ap (λ r. then r counted) (size_complete ds rest n e h)

-- values: what is read stands there
abbrev Fronts : ℕ → Value → List ℕ → List ℕ → Type 0
Fronts d v bs rest = (front : List ℕ) × (bs ≡ front ++ rest) × Stands v front × (depth v ≤ d)

several_sound : (d : ℕ) (one : List ℕ → Option (Read Value)) → ((bs rest : List ℕ) (v : Value) → one bs ≡ read v rest → Fronts d v bs rest) →
    (n : ℕ) (bs rest : List ℕ) (vs : Values) → several one n bs ≡ read vs rest → (front : List ℕ) × (bs ≡ front ++ rest) × Follow vs front × (count vs ≡ n) × (deepest vs ≤ d)
several_sound d one sound zero bs rest vs e =
    let P : Values → Type 0 = λ us. (front : List ℕ) × (bs ≡ front ++ rest) × Follow us front × (count us ≡ 0) × (deepest us ≤ d) in
    subst P (same_value e) ([], same_rest e, refl, refl, omega arith)
several_sound d one sound (suc n) bs rest vs e =
    let x = then_read (one bs) (λ v behind. then (several one n behind) (λ us last. read (more v us) last)) vs rest e in
    let v = x.0.value in
    let y = then_read (several one n x.0.rest) (λ us last. read (more v us) last) vs rest x.2 in
    let us = y.0.value in
    let f = sound bs x.0.rest v x.1 in
    let g = several_sound d one sound n x.0.rest y.0.rest us y.1 in
    let P : Values → Type 0 = λ ws. (front : List ℕ) × (bs ≡ front ++ rest) × Follow ws front × (count ws ≡ suc n) × (deepest ws ≤ d) in
    subst P (same_value y.2) (
      f.0 ++ g.0,
      f.1 ∙ ap (λ l. f.0 ++ l) (g.1 ∙ ap (λ l. g.0 ++ l) (same_rest y.2)) ∙ sym (append_assoc f.0 g.0 rest),
      (f.0, g.0, refl, f.2, g.2),
      ap suc g.3,
      omega (arith, f.3, g.4),
    )

completed_sound : (d : ℕ) (nested : ℕ → List ℕ → Option (Read Values)) →
    ((n : ℕ) (bs rest : List ℕ) (vs : Values) → nested n bs ≡ read vs rest → (front : List ℕ) × (bs ≡ front ++ rest) × Follow vs front × (count vs ≡ n) × (suc (deepest vs) ≤ d)) →
    (h : Head) (bs behind rest : List ℕ) (v : Value) → Begins h bs behind → completed nested h behind ≡ read v rest → Fronts d v bs rest
completed_sound d nested sound (whole w) bs behind rest v b e =
    subst (λ u. Fronts d u bs rest) (same_value e) (b.0, b.1 ∙ ap (λ l. b.0 ++ l) (same_rest e), b.2, omega (arith, b.3))
completed_sound d nested sound (elements n) bs behind rest v b e =
    let x = then_read (nested n behind) (λ vs last. read (array vs) last) v rest e in
    let vs = x.0.value in
    let f = sound n behind x.0.rest vs x.1 in
    let ds = b.0 in
    let es = f.0 in
    let body : behind ≡ es ++ rest = f.1 ∙ ap (λ l. es ++ l) (same_rest x.2) in
    subst (λ u. Fronts d u bs rest) (same_value x.2) (
      42 ∷ (ds ++ (crlf ++ es)),
      b.2 ∙ ap (λ l. 42 ∷ (ds ++ (crlf ++ l))) body ∙ simp append_assoc,
      (ds, es, b.1 ∙ ap Some (sym f.3), refl, f.2),
      f.4,
    )

pub value_sound : Sound
value_sound zero bs rest v e =
    let x = then_read (head bs) (completed (λ n behind. None)) v rest e in
    completed_sound 0 (λ n behind. None) (λ n cs behind vs f. absurd (none_read f)) x.0.value bs x.0.rest rest v (head_sound bs x.0.rest x.0.value x.1) x.2
value_sound (suc d) bs rest v e =
    let x = then_read (head bs) (completed (several (value d))) v rest e in
    let nested : (n : ℕ) (cs behind : List ℕ) (vs : Values) → several (value d) n cs ≡ read vs behind → (front : List ℕ) × (cs ≡ front ++ behind) × Follow vs front × (count vs ≡ n) × (suc (deepest vs) ≤ suc d) =
    λ n cs behind vs f. let g = several_sound d (value d) (value_sound d) n cs behind vs f in (g.0, g.1, g.2, g.3, omega (arith, g.4)) in
    completed_sound (suc d) (several (value d)) nested x.0.value bs x.0.rest rest v (head_sound bs x.0.rest x.0.value x.1) x.2

-- values: what stands there is read
stands_some : (v : Value) (front : List ℕ) → Stands v front → 1 ≤ length front
stands_some (simple_string t) front s = omega (arith, ap length s.1)
stands_some (simple_error t) front s = omega (arith, ap length s.1)
stands_some (integer z) front s = omega (arith, ap length s.2)
stands_some (bulk_string t) front s = omega (arith, ap length s.2)
stands_some null front (inl s) = omega (arith, ap length s)
stands_some null front (inr s) = omega (arith, ap length s)
stands_some (array vs) front s = omega (arith, ap length s.3)

follow_long : (vs : Values) (es : List ℕ) → Follow vs es → count vs ≤ length es
follow_long none es f = omega arith
follow_long (more v vs) es f =
    let first = stands_some v f.0 f.3 in
    let others = follow_long vs f.1 f.4 in
    omega (arith, ap length f.2, length-append f.0 f.1)

several_complete : (d : ℕ) (one : List ℕ → Option (Read Value)) → ((v : Value) (front rest : List ℕ) → Stands v front → depth v ≤ d → one (front ++ rest) ≡ read v rest) →
    (vs : Values) (es rest : List ℕ) → Follow vs es → deepest vs ≤ d → several one (count vs) (es ++ rest) ≡ read vs rest
several_complete d one complete none es rest f h = ap (λ l. read none (l ++ rest)) f
several_complete d one complete (more v vs) es rest f h =
    ap (λ l. several one (suc (count vs)) l) (ap (λ l. l ++ rest) f.2 ∙ append_assoc f.0 f.1 rest)
    ∙ ap (λ r. then r (λ w behind. then (several one (count vs) behind) (λ us last. read (more w us) last))) (complete v f.0 (f.1 ++ rest) f.3 (omega arith))
    ∙ ap (λ r. then r (λ us last. read (more v us) last)) (several_complete d one complete vs f.1 rest f.4 (omega arith))

flat_complete : (d : ℕ) (v : Value) (front rest : List ℕ) → Stands v front → depth v ≤ 0 → value d (front ++ rest) ≡ read v rest
flat_complete zero v front rest s h = ap (λ r. then r (completed (λ n behind. None))) (whole_complete v front rest s h)
flat_complete (suc d) v front rest s h = ap (λ r. then r (completed (several (value d)))) (whole_complete v front rest s h)

array_complete : (d : ℕ) → ((v : Value) (front rest : List ℕ) → Stands v front → depth v ≤ d → value d (front ++ rest) ≡ read v rest) →
    (vs : Values) (front rest : List ℕ) → Stands (array vs) front → deepest vs ≤ d → value (suc d) (front ++ rest) ≡ read (array vs) rest
array_complete d complete vs front rest s h =
    let ds = s.0 in
    let es = s.1 in
    let long = follow_long vs es s.4 in
    let flat : (42 ∷ (ds ++ (crlf ++ es))) ++ rest ≡ 42 ∷ (ds ++ (crlf ++ (es ++ rest))) = simp append_assoc in
    ap (λ l. value (suc d) (l ++ rest)) s.3 ∙ ap (value (suc d)) flat
    ∙ ap (λ r. then r (completed (several (value d)))) (elements_complete ds (es ++ rest) (count vs) s.2 (omega (arith, length-append es rest)))
    ∙ ap (λ r. then r (λ us last. read (array us) last)) (several_complete d (value d) complete vs es rest s.4 h)

complete_at : (d : ℕ) (v : Value) (front rest : List ℕ) → Stands v front → depth v ≤ d → value d (front ++ rest) ≡ read v rest
complete_at zero v front rest s h = flat_complete 0 v front rest s h
complete_at (suc d) (simple_string t) front rest s h = flat_complete (suc d) (simple_string t) front rest s (omega arith)
complete_at (suc d) (simple_error t) front rest s h = flat_complete (suc d) (simple_error t) front rest s (omega arith)
complete_at (suc d) (integer z) front rest s h = flat_complete (suc d) (integer z) front rest s (omega arith)
complete_at (suc d) (bulk_string t) front rest s h = flat_complete (suc d) (bulk_string t) front rest s (omega arith)
complete_at (suc d) null front rest s h = flat_complete (suc d) null front rest s (omega arith)
complete_at (suc d) (array vs) front rest s h = array_complete d (complete_at d) vs front rest s (omega arith)

pub value_complete : Complete
value_complete d front rest v s h = complete_at d v front rest s h

pub unambiguous : Unambiguous
unambiguous v w a b r s stands-v stands-w e =
    let d = max (depth v) (depth w) in
    let both = sym (value_complete d a r v stands-v (omega arith)) ∙ ap (value d) e ∙ value_complete d b s w stands-w (omega arith) in
    let rest = same_rest both in
    (same_value both, append_cancel_right a b s (ap (λ l. a ++ l) (sym rest) ∙ e), rest)

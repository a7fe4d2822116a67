-- From the lengths that the code counts to what is read.
use Rattle.std.proofs.Common.{◌≡◌, ℕ, suc, ◌+◌, ◌-◌, ◌<◌, ◌≤◌, true, cond, List, [], ◌∷◌, length, get_or, take, drop, Some, None, Option, sym, ap, ◌∙◌, subst, arith}
use Rattle.std.proofs.lemmas.List.{drop-drop, take_rest}
use Rattle.resp.proofs.Lines.{closed_fits}
use Rattle.resp.specs.Line.{line, ended}
use Rattle.resp.specs.Place.{cut}
use Rattle.resp.specs.Read.{Read, read, then}
use Rattle.resp.specs.Reading.{whole, texted, size, bulk, head}
use Rattle.resp.specs.Told.{part, shown, told, Texted, told_size}
use Rattle.resp.specs.Value.{Value, bulk_string}
use Rattle.resp.specs.declared.place.Place.{Place}
use Rattle.resp.specs.declared.place.Head.{Head}
use Rattle.resp.specs.declared.place.Size.{Size}
use Rattle.resp.specs.declared.place.Token.{Token}

-- the type byte counts too
drop_behind : (k : ℕ) (bs : List ℕ) (n m : ℕ) → m ≡ suc n → drop m (k ∷ bs) ≡ drop n bs
drop_behind k bs n m e = rw e

-- the line at the front has a text of n bytes
module _ (bs : List ℕ) (n : ℕ) (found : cut bs (Some n) ≡ line bs) where
  pub texted_told : (k : ℕ) (kind : List ℕ → Value) → read (whole (kind (take (n + 1 - 1) bs))) (drop (n + 3) (k ∷ bs)) ≡ texted kind bs
  texted_told k kind =
      let same : n + 1 - 1 ≡ n = omega arith in
      rw (same, drop_behind k bs (n + 2) (n + 3) (omega arith)) (ap (λ r. then r (λ t rest. read (whole (kind t)) rest)) found)

-- a line behind a type byte, of the kind that its head has
module _ (k : ℕ) (kind : List ℕ → Value) (of : Place → Head) (rest : List ℕ) (r : Option Token) (found : Texted (λ p h. Place × (h ≡ of p)) rest r) where
  pub text_told : ((bs : List ℕ) (p : Place) → shown bs (of p) ≡ whole (kind (part bs p))) → told (k ∷ rest) r ≡ texted kind rest
  text_told shows = go r found
    where
      go : (s : Option Token) → Texted (λ p h. Place × (h ≡ of p)) rest s → told (k ∷ rest) s ≡ texted kind rest
      go None h = ap (λ l. then l (λ t behind. read (whole (kind t)) behind)) h
      go (Some t) h = rw (h.4.1, shows, h.1) (texted_told rest h.0 h.3 k kind)

-- a length stands at the front
module _ (bs : List ℕ) (s : Size) (found : told_size bs (Some s) ≡ size bs) where
  behind_size : {A : Type 0} (f : Option ℕ → List ℕ → Option (Read A)) → f s.count (drop s.len bs) ≡ then (size bs) f
  behind_size f = ap (λ r. then r f) found

  behind_head : (k : ℕ) → drop (s.len + 1) (k ∷ bs) ≡ drop s.len bs
  behind_head k = drop_behind k bs s.len (s.len + 1) (omega arith)

  module _ (n : ℕ) (e : s.count ≡ Some n) where
    ends : ended (take (length bs - (s.len + n)) (drop (s.len + n) bs)) ≡ ended (drop n (drop s.len bs))
    ends = ap ended (take_rest bs (s.len + n) ∙ sym (drop-drop n s.len bs))

    pub bulk_fits : true ≡ ended (take (length bs - (s.len + n)) (drop (s.len + n) bs)) → s.len + n + 2 ≤ length bs
    bulk_fits h = closed_fits bs (s.len + n) (ap ended (sym (take_rest bs (s.len + n))) ∙ sym h)

    pub bulk_told : true ≡ ended (take (length bs - (s.len + n)) (drop (s.len + n) bs)) →
        read (whole (bulk_string (part (36 ∷ bs) (record { start = s.len + 1; end = s.len + n + 1 })))) (drop (s.len + n + 3) (36 ∷ bs)) ≡ then (size bs) bulk
    bulk_told h =
        let wide : s.len + n + 1 - (s.len + 1) ≡ n = omega arith in
        let text : part (36 ∷ bs) (record { start = s.len + 1; end = s.len + n + 1 }) ≡ take n (drop s.len bs) = rw (wide, behind_head 36) in
        let rest : drop (s.len + n + 3) (36 ∷ bs) ≡ drop 2 (drop n (drop s.len bs)) =
        drop_behind 36 bs (s.len + n + 2) (s.len + n + 3) (omega arith) ∙ sym (drop-drop 2 (s.len + n) bs) ∙ ap (drop 2) (sym (drop-drop n s.len bs)) in
        ap (λ t. read (whole (bulk_string t)) (drop (s.len + n + 3) (36 ∷ bs))) text
        ∙ ap (read (whole (bulk_string (take n (drop s.len bs))))) rest
        ∙ ap (λ b. then (cond b (read (take n (drop s.len bs)) (drop 2 (drop n (drop s.len bs)))) None) (λ t behind. read (whole (bulk_string t)) behind)) (h ∙ ends)
        ∙ ap (λ o. bulk o (drop s.len bs)) (sym e) ∙ behind_size bulk

-- a list by its first element
pub by_first : (bs : List ℕ) (k : ℕ) → get_or bs 0 0 ≡ k → 0 < k → bs ≡ k ∷ take (length bs - 1) (drop 1 bs)
by_first [] k e h = absurd (omega arith)
by_first (b ∷ bs) k e h = rw (e, take_rest (b ∷ bs) 1)

-- what was told behind a type byte holds of all the bytes
pub all_told : (bs : List ℕ) (k : ℕ) (r : Option Token) → get_or bs 0 0 ≡ k → 0 < k → told (k ∷ take (length bs - 1) (drop 1 bs)) r ≡ head (k ∷ take (length bs - 1) (drop 1 bs)) → told bs r ≡ head bs
all_told bs k r first some = subst (λ l. told l r ≡ head l) (sym (by_first bs k first some))

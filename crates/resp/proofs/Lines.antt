-- How far a line's text goes, one byte at a time.
use Rattle.std.proofs.Common.{◌≡◌, ℕ, zero, suc, ◌+◌, ◌*◌, ◌<◌, ◌≤◌, Bool, true, false, cond, not, ◌&&◌, ltb, List, [], ◌∷◌, ◌++◌, length, get_or, take, drop, Some, None, Option, refl, sym, ap, ◌∙◌, inl, inr, arith, length-drop, length-append}
use Rattle.std.proofs.Math.Numerals.{one-add}
use Rattle.std.proofs.lemmas.Bool.Decides.{nat_tests}
use Rattle.std.proofs.lemmas.List.{drop-drop}
use Rattle.std.proofs.lemmas.Bool.{false≢true, false_from_ne_true, and_parts, cases_Bool, ltb-true, ltb-false, ne_eqb}
use Rattle.std.specs.Bool.{then_some}
use Rattle.std.specs.List.{fold, list_all, position, position_or_len}
use Rattle.std.proofs.Math.Bool.{and-true, and_assoc}
use Rattle.std.specs.Simd.{first_chunks}
use Rattle.std.proofs.lemmas.List.{length-take-le}
use Rattle.std.proofs.lemmas.List.Sums.{prefix_len-le-length}
use Rattle.std.specs.Option.{unwrap_or}
use Rattle.std.proofs.lemmas.List.Recursion.{is_position_or_len}
use Rattle.std.proofs.lemmas.List.Quantifiers.{position-Some}
use Rattle.memchr.specs.Find.{IsFirstByte, is_byte2}
use Rattle.resp.specs.Line.{breaks, plain, above, loud, FirstBreak, ended, closed, line}
use Rattle.resp.specs.Place.{cut}

-- the first byte that breaks
plain_at : (bs : List ℕ) (k : ℕ) → k < length bs → breaks (get_or bs k 0) ≡ true → ((j : ℕ) → 0 ≤ j → j < k → breaks (get_or bs j 0) ≡ true → ⊥) → plain bs ≡ k
plain_at [] k h e none = absurd (omega arith)
plain_at (b ∷ bs) zero h e none = rw e
plain_at (b ∷ bs) (suc k) h e none =
    let goes : breaks b ≡ false = false_from_ne_true (breaks b) (none 0 (omega arith) (omega arith)) in
    rw goes (ap suc (plain_at bs k (omega arith) e (λ j z l. none (suc j) (omega arith) (omega arith))))

plain_all : (bs : List ℕ) → ((j : ℕ) → 0 ≤ j → j < length bs → breaks (get_or bs j 0) ≡ true → ⊥) → plain bs ≡ length bs
plain_all [] none = refl
plain_all (b ∷ bs) none =
    let goes : breaks b ≡ false = false_from_ne_true (breaks b) (none 0 (omega arith) (omega arith)) in
    rw goes (ap suc (plain_all bs (λ j z l. none (suc j) (omega arith) (omega arith))))

ended_long : (bs : List ℕ) → ended bs ≡ true → 2 ≤ length bs
ended_long [] e = absurd (false≢true e)
ended_long (c ∷ []) e = absurd (false≢true e)
ended_long (c ∷ d ∷ rest) e = omega arith

-- n bytes, and CR LF behind them
module _ (bs : List ℕ) (n : ℕ) where
  pub closed_fits : ended (drop n bs) ≡ true → n + 2 ≤ length bs
  closed_fits e = let l = ended_long (drop n bs) e in omega (arith, length-drop n bs)

  pub closed_cut : ended (drop n bs) ≡ true → cut bs (Some n) ≡ closed (take n bs) (drop n bs)
  closed_cut e = rw (e, drop-drop 2 n bs)

  pub open_cut : ended (drop n bs) ≡ false → cut bs None ≡ closed (take n bs) (drop n bs)
  open_cut e = rw e

plain_position : (bs : List ℕ) → plain bs ≡ position_or_len breaks bs
plain_position = is_position_or_len plain breaks refl (λ b bs. ap (cond (breaks b) 0) (sym (one-add (plain bs))))

plain_front : (xs ys : List ℕ) → plain xs < length xs → plain (xs ++ ys) ≡ plain xs
plain_front [] ys h = absurd (omega arith)
plain_front (x ∷ xs) ys h =
    elim (breaks x) as (λ b. cond b 0 (suc (plain xs)) < suc (length xs) → cond b 0 (suc (plain (xs ++ ys))) ≡ cond b 0 (suc (plain xs)))
    [ true ↦ λ l. refl | false ↦ λ l. ap suc (plain_front xs ys (omega arith)) ] h

plain_behind : (xs ys : List ℕ) → length xs ≤ plain xs → plain (xs ++ ys) ≡ length xs + plain ys
plain_behind [] ys h = omega arith
plain_behind (x ∷ xs) ys h =
    elim (breaks x) as (λ b. suc (length xs) ≤ cond b 0 (suc (plain xs)) → cond b 0 (suc (plain (xs ++ ys))) ≡ suc (length xs) + plain ys)
    [ true ↦ λ l. absurd (omega arith) | false ↦ λ l. omega (arith, plain_behind xs ys (omega arith)) ] h

-- what the library's search for one of two bytes tells
pub break_by : (bs : List ℕ) (r : Option ℕ) → IsFirstByte (is_byte2 13 10) bs r → FirstBreak bs r
break_by bs None h = plain_all bs h
break_by bs (Some n) h = (h.0.high, sym (plain_at bs n h.0.high h.1 h.0.before))

-- a break among the first bytes, or the first one behind them
module _ (xs ys : List ℕ) where
  pub break_near : (n : ℕ) → Some n ≡ position breaks xs → FirstBreak (xs ++ ys) (Some n)
  break_near n e =
      let at = position-Some breaks xs n 0 (sym e) in
      let here = plain_at xs n at.0 at.1 (λ j z l t. false≢true (sym (at.2 j l) ∙ t)) in
      (omega (arith, at.0, length-append xs ys), omega (arith, plain_front xs ys (omega (arith, at.0, here)), here))

  none_near : None ≡ position breaks xs → length xs ≤ plain xs
  none_near e = grind (arith, nat_tests, plain_position xs)

  pub break_far : None ≡ position breaks xs → (n : ℕ) → FirstBreak ys (Some n) → FirstBreak (xs ++ ys) (Some (length xs + n))
  break_far e n h = (omega (arith, h.0, length-append xs ys), omega (arith, plain_behind xs ys (none_near e), h.1))

  pub no_break : None ≡ position breaks xs → FirstBreak ys None → FirstBreak (xs ++ ys) None
  no_break e h = omega (arith, plain_behind xs ys (none_near e), h, length-append xs ys)

-- behind bytes of which none breaks
pub plain_past : (n : ℕ) (bs : List ℕ) → n ≤ plain bs → plain bs ≡ n + plain (drop n bs)
plain_past zero bs h = omega arith
plain_past (suc n) [] h = absurd (omega arith)
plain_past (suc n) (b ∷ bs) h =
    elim (breaks b) as (λ t. suc n ≤ cond t 0 (suc (plain bs)) → cond t 0 (suc (plain bs)) ≡ suc n + plain (drop n bs))
    [ true ↦ λ l. absurd (omega arith) | false ↦ λ l. omega (arith, plain_past n bs (omega arith)) ] h

pub break_past : (n : ℕ) (bs : List ℕ) (k : ℕ) → n ≤ plain bs → FirstBreak (drop n bs) (Some k) → FirstBreak bs (Some (n + k))
break_past n bs k h found = (omega (arith, found.0, length-drop n bs), omega (arith, plain_past n bs h, found.1))

pub no_break_past : (n : ℕ) (bs : List ℕ) → n ≤ length bs → n ≤ plain bs → FirstBreak (drop n bs) None → FirstBreak bs None
no_break_past n bs l h none = omega (arith, plain_past n bs h, none, length-drop n bs)

pub plain_within : (bs : List ℕ) → plain bs ≤ length bs
plain_within [] = omega arith
plain_within (b ∷ bs) =
    elim (breaks b) as (λ t. cond t 0 (suc (plain bs)) ≤ suc (length bs))
    [ true ↦ omega arith | false ↦ omega (arith, plain_within bs) ]

-- a test of all, one after the other
pub folded_all : (bs : List ℕ) (so_far : Bool) → fold (λ quiet b. quiet && above b) so_far bs ≡ (so_far && list_all above bs)
folded_all [] so_far = sym (and-true so_far)
folded_all (b ∷ bs) so_far = folded_all bs (so_far && above b) ∙ and_assoc so_far (above b) (list_all above bs)

-- bytes above CR
quiet_plain : (bs : List ℕ) → list_all above bs ≡ true → length bs ≤ plain bs
quiet_plain [] h = omega arith
quiet_plain (b ∷ bs) h =
    let p = and_parts (above b) (list_all above bs) h in
    let high = ltb-true 13 b p.0 in
    let goes : breaks b ≡ false = rw (ne_eqb b 13 (omega arith), ne_eqb b 10 (omega arith)) refl in
    rw goes (omega (arith, quiet_plain bs p.1))

pub plain_take : (n : ℕ) (bs : List ℕ) → plain (take n bs) ≤ plain bs
plain_take zero bs = omega arith
plain_take (suc n) [] = omega arith
plain_take (suc n) (b ∷ bs) =
    elim (breaks b) as (λ t. cond t 0 (suc (plain (take n bs))) ≤ cond t 0 (suc (plain bs)))
    [ true ↦ omega arith | false ↦ omega (arith, plain_take n bs) ]

-- whole blocks of such bytes
module _ (n : ℕ) where
  blocks_within : (k : ℕ) (bs : List ℕ) → n * k ≤ length bs → n * position_or_len loud (first_chunks n k bs) ≤ plain bs
  blocks_within zero bs l = omega arith
  blocks_within (suc k) bs l =
      elim (cases_Bool (list_all above (take n bs))) [
        | inl quiet ↦
            let here : n ≤ plain (take n bs) = omega (arith, quiet_plain (take n bs) quiet, length-take-le n bs (omega arith)) in
            let later = blocks_within k (drop n bs) (omega (arith, length-drop n bs)) in
            rw quiet (omega (arith, plain_past n bs (omega (arith, here, plain_take n bs)), later))
        | inr noisy ↦ rw noisy (omega arith)
      ]

  pub quiet_within : (k : ℕ) (bs : List ℕ) (blocks : List (List ℕ)) (found : Option ℕ) → n * k ≤ length bs → blocks ≡ first_chunks n k bs → length blocks ≡ k → found ≡ position loud blocks → n * unwrap_or found (length blocks) ≤ plain bs
  quiet_within k bs blocks found l is long e =
      let at = position_or_len loud blocks in
      let here : n * at ≤ plain bs = rw is (blocks_within k bs l) in
      elim (cases_Bool (ltb at (length blocks))) [
        | inl some ↦ rw (e, some) here
        | inr none ↦ rw (e, none) (let all : at ≡ length blocks = omega (arith, prefix_len-le-length (λ x. not (loud x)) blocks, ltb-false at (length blocks) none) in rw (← all) here)
      ]

pub quiet_then : (xs ys : List ℕ) (n m : ℕ) → length xs ≤ n → n ≤ plain xs → m ≤ plain ys → n + m ≤ plain (xs ++ ys)
quiet_then xs ys n m all h k = omega (arith, plain_within xs, plain_behind xs ys (omega (arith, all, h)))

module _ (bs : List ℕ) (n : ℕ) (found : n ≡ plain bs) (b : Bool) (e : b ≡ ended (drop n bs)) where
  pub line_cut : cut bs (then_some b n) ≡ line bs
  line_cut = go b e ∙ ap (λ k. closed (take k bs) (drop k bs)) found
    where
      go : (a : Bool) → a ≡ ended (drop n bs) → cut bs (then_some a n) ≡ closed (take n bs) (drop n bs)
      go true h = closed_cut bs n (sym h)
      go false h = open_cut bs n (sym h)

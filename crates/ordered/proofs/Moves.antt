-- One turn of a move by one place.
use Rattle.std.proofs.Common.{◌≡◌, ℕ, suc, ◌+◌, ◌-◌, ◌<◌, ◌≤◌, List, [], ◌∷◌, ◌++◌, length, get_or, take, drop, set, sym, ap, ◌∙◌, arith}
use Rattle.std.specs.List.{between}
use Rattle.std.proofs.lemmas.List.Edits.{between_none, between_more, length-between}
use Rattle.std.proofs.lemmas.List.{append_assoc, length-append, length-take-le, take-append-drop, take_more, drop_more, set_at, get_or_append_left, get_or-append_right, get_or-take, get_or-drop}
use Rattle.ordered.specs.Moves.{moved_up, moved_down}

module _ {E : Type 0} (xs : List E) where
  pub up_none : (end : ℕ) → xs ≡ moved_up end end xs
  up_none end = sym (ap (λ ys. take (end + 1) xs ++ (ys ++ drop (end + 1) xs)) (between_none xs end) ∙ take-append-drop (end + 1) xs)

  pub down_none : (at : ℕ) → xs ≡ moved_down at at xs
  down_none at = sym (ap (λ ys. take at xs ++ (ys ++ drop at xs)) (between_none xs (at + 1)) ∙ take-append-drop at xs)

  between_first : (i end : ℕ) (d : E) → i < end → i < length xs → between i end xs ≡ get_or xs i d ∷ between (i + 1) end xs
  between_first i end d h l = (λ k. take (first k) (drop_more xs i d l k))
    where
      first : end - i ≡ suc (end - (i + 1))
      first = omega arith

  pub up_set : (at end : ℕ) (x : E) → at < length xs → set (moved_up at end xs) at x ≡ take at xs ++ (x ∷ (between at end xs ++ drop (end + 1) xs))
  up_set at end x l =
      let rest = between at end xs ++ drop (end + 1) xs in
      ap (λ ys. set ys at x) (ap (λ ys. ys ++ rest) (take_more xs at x l) ∙ append_assoc (take at xs) (get_or xs at x ∷ []) rest) ∙ set_at (take at xs) (get_or xs at x) rest x at (length-take-le at xs (omega arith))

  module _ (i end : ℕ) (x : E) where
    pub up_more : i < end → end < length xs → x ≡ get_or (moved_up (i + 1) end xs) i x → set (moved_up (i + 1) end xs) (i + 1) x ≡ moved_up i end xs
    up_more h l read =
        let rest = between (i + 1) end xs ++ drop (end + 1) xs in
        let is : x ≡ get_or xs i x = read ∙ get_or_append_left (take (i + 1 + 1) xs) rest x i (omega (arith, length-take-le (i + 1 + 1) xs (omega arith))) ∙ get_or-take (i + 1 + 1) xs i x (omega arith) in
        up_set (i + 1) end x (omega arith) ∙ ap (λ ys. take (i + 1) xs ++ (ys ++ drop (end + 1) xs)) (ap (λ y. y ∷ between (i + 1) end xs) is ∙ sym (between_first i end x h (omega arith)))

    pub down_more : (at : ℕ) → at ≤ i → i < end → end < length xs → x ≡ get_or (moved_down at i xs) (i + 1) x → set (moved_down at i xs) i x ≡ moved_down at (i + 1) xs
    down_more at a h l read =
        let moved = between (at + 1) (i + 1) xs in
        let front = take at xs ++ moved in
        let long : length front ≡ i = length-append (take at xs) moved ∙ omega (arith, length-take-le at xs (omega arith), length-between xs (at + 1) (i + 1) (omega arith)) in
        let left = sym (append_assoc (take at xs) moved (drop i xs)) in
        let second : i + (i + 1 - i) ≡ i + 1 = omega arith in
        let is : x ≡ get_or xs (i + 1) x = read ∙ ap (λ ys. get_or ys (i + 1) x) left ∙ get_or-append_right front (drop i xs) i (i + 1) x long (omega arith) ∙ get_or-drop i xs (i + 1 - i) x ∙ ap (λ n. get_or xs n x) second in
        ap (λ ys. set ys i x) (left ∙ ap (λ ys. front ++ ys) (drop_more xs i x (omega arith))) ∙ set_at front (get_or xs i x) (drop (i + 1) xs) x i long
        ∙ append_assoc (take at xs) moved (x ∷ drop (i + 1) xs)
        ∙ ap (λ ys. take at xs ++ ys) (ap (λ y. moved ++ (y ∷ drop (i + 1) xs)) is ∙ sym (append_assoc moved (get_or xs (i + 1) x ∷ []) (drop (i + 1) xs)) ∙ ap (λ ys. ys ++ drop (i + 1) xs) (sym (between_more xs (at + 1) (i + 1) x (omega arith) (omega arith))))

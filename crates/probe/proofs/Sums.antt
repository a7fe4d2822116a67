-- A sum over slots, two bytes at a time, and over rounds.
use Rattle.std.proofs.Common.{◌≡◌, ℕ, suc, ◌+◌, ◌*◌, ◌/◌, ◌%◌, ◌^◌, List, [], ◌∷◌, length, w16, refl, ap, ◌∙◌, arith}
use Rattle.std.specs.Int.{from_le_bytes}
use Rattle.std.specs.List.{fold}
use Rattle.std.specs.Simd.{first_chunks}
use Rattle.slot_map.specs.Range.{Range}
use Rattle.probe.specs.Found.{worth, summed, repeated}

module _ (t : List Range) where
  abbrev pub added : ℕ → List ℕ → ℕ
  added sum slot = (sum + worth (from_le_bytes w16 slot) t) % 2 ^ 64

  pub summed_pairs : (bs : List ℕ) (sum : ℕ) → fold added sum (first_chunks 2 (length bs / 2) bs) ≡ summed t sum bs
  summed_pairs [] sum = refl
  summed_pairs (b ∷ []) sum = refl
  summed_pairs (low ∷ high ∷ bs) sum =
      let half : length (low ∷ high ∷ bs) / 2 ≡ suc (length bs / 2) = omega arith in
      let slot : from_le_bytes w16 (low ∷ high ∷ []) ≡ low + 256 * high = omega arith in
      ap (λ k. fold added sum (first_chunks 2 k (low ∷ high ∷ bs))) half
      ∙ ap (λ n. fold added ((sum + worth n t) % 2 ^ 64) (first_chunks 2 (length bs / 2) bs)) slot
      ∙ summed_pairs bs ((sum + worth (low + 256 * high) t) % 2 ^ 64)

  pub repeated_over : (slots xs : List ℕ) (sum : ℕ) → fold (λ s x. summed t s slots) sum xs ≡ repeated t slots (length xs) sum
  repeated_over slots [] sum = refl
  repeated_over slots (x ∷ xs) sum = repeated_over slots xs (summed t sum slots)

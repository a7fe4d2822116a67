-- Where the library's search ends in a table.
use Rattle.std.proofs.Common.{◌≡◌, ℕ, ◌<◌, ◌≤◌, true, false, List, length, get_or, Ok, Err, Result, Ordering, Less, Equal, Greater, refl, ap, subst, inl, inr, true≢false, arith}
use Rattle.std.proofs.lemmas.Bool.{cases_eq}
use Rattle.std.specs.Cmp.{IsTotalOrder}
use Rattle.std.specs.List.Sorted.{IsSearchInRange, IsBinarySearchResult, IsNonDecreasingBy}
use Rattle.std.specs.Ordering.{is_gt, ordering_index}
use Rattle.ordered.specs.Table.{ascending, Found, Rank}
use Rattle.ordered.proofs.Ascents.{ascends}
use Rattle.ordered.proofs.Lookups.{lookup_there, lookup_absent}
use Rattle.ordered.proofs.Ranks.{less_than_equal}

at_most_two : (o : Ordering) → ordering_index o ≤ 2
at_most_two Less = omega arith
at_most_two Equal = omega arith
at_most_two Greater = omega arith

module _ {E K : Type 0} (key : E → K) (rank : K → K → Ordering) (total : IsTotalOrder rank) (xs : List E) (k : K) (sorted : ascending key rank xs ≡ true) where
  -- those before a key that is not above k are below k
  before : (i j : ℕ) (d : E) → i < j → j < length xs → (o : Ordering) → rank (key (get_or xs j d)) k ≡ o → is_gt o ≡ false → rank (key (get_or xs i d)) k ≡ Less
  before i j d h l Less e n = total.trans _ _ _ (ascends key rank xs i j d sorted h l) e
  before i j d h l Equal e n = less_than_equal total _ _ _ (ascends key rank xs i j d sorted h l) e
  before i j d h l Greater e n = absurd (true≢false n)

  rises_by : (i j : ℕ) (d : E) → i < j → j < length xs → (o : Ordering) → rank (key (get_or xs j d)) k ≡ o → ordering_index (rank (key (get_or xs i d)) k) ≤ ordering_index (rank (key (get_or xs j d)) k)
  rises_by i j d h l Less e = omega (arith, ap ordering_index (before i j d h l Less e refl))
  rises_by i j d h l Equal e = omega (arith, ap ordering_index (before i j d h l Equal e refl))
  rises_by i j d h l Greater e = omega (arith, ap ordering_index e, at_most_two (rank (key (get_or xs i d)) k))

  rises : IsNonDecreasingBy (λ e. ordering_index (rank (key e) k)) xs
  rises i j d h l = elim (cases_eq i j) [
    | inl same ↦ omega (arith, ap (λ n. ordering_index (rank (key (get_or xs n d)) k)) same)
    | inr other ↦ rises_by i j d (omega arith) l (rank (key (get_or xs j d)) k) refl
  ]

  pub searched : (r : Result ℕ ℕ) → IsSearchInRange r (length xs) → IsBinarySearchResult (λ e. rank (key e) k) xs r → Found key rank xs k r
  searched (Ok i) within there =
      let low : Rank key rank Less xs k 0 i = λ j d l m. before j i d m within Equal (there d) refl in
      (within, low, there, lookup_there key rank k xs i within low there)
  searched (Err i) within parted =
      let parts = parted rises in
      (within, parts.0, parts.1, lookup_absent key rank k xs i parts.0 parts.1)

  -- so also where a list that is this one was searched, and the answer was handed on
  pub searched_alike : (ys : List E) (p r : Result ℕ ℕ) → IsSearchInRange p (length ys) → IsBinarySearchResult (λ e. rank (key e) k) ys p → ys ≡ xs → p ≡ r → Found key rank xs k r
  searched_alike ys p r within there same handed =
      let bound = subst (λ zs. IsSearchInRange p (length zs)) same within in
      let position = subst (λ zs. IsBinarySearchResult (λ e. rank (key e) k) zs p) same there in
      subst (λ q. Found key rank xs k q) handed (searched p bound position)

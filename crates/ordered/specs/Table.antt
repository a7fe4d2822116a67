-- A table: a list of entries whose keys ascend strictly. It is a map from keys to entries.
use Rattle.std.specs.Prelude.{◌≡◌, ℕ, ◌<◌, ◌≤◌, Bool, true, cond, ◌&&◌, List, [], ◌∷◌, length, Some, None, Ok, Err, Option, Result, slice_index_or}
use Rattle.std.specs.declared.cmp.Ordering.TheVariants.{Less, Equal, Greater}
use Rattle.std.specs.declared.cmp.Ordering.{Ordering}
use Rattle.std.specs.Ordering.{is_lt, is_eq}

-- one of three, by an order's answer
abbrev pub by : {A : Type 0} → Ordering → A → A → A → A
by Less x y z = x
by Equal x y z = y
by Greater x y z = z

module _ {E K : Type 0} (key : E → K) (rank : K → K → Ordering) where
  -- each of the entries has a key above that of x
  abbrev pub above : E → List E → Bool
  above x [] = true
  above x (y ∷ ys) = is_lt (rank (key x) (key y)) && above x ys

  abbrev pub ascending : List E → Bool
  ascending [] = true
  ascending (x ∷ xs) = above x xs && ascending xs

  -- the entry with the key
  abbrev pub lookup : K → List E → Option E
  lookup k [] = None
  lookup k (x ∷ xs) = cond (is_eq (rank (key x) k)) (Some x) (lookup k xs)

  -- the entry in its place, or in the place of the one that has its key
  abbrev pub put : E → List E → List E
  put e [] = e ∷ []
  put e (x ∷ xs) = by (rank (key x) (key e)) (x ∷ put e xs) (e ∷ xs) (e ∷ x ∷ xs)

  -- all but the entry with the key
  abbrev pub without : K → List E → List E
  without k [] = []
  without k (x ∷ xs) = cond (is_eq (rank (key x) k)) xs (x ∷ without k xs)

  -- the keys from one place up to another rank so against k
  abbrev pub Rank : Ordering → List E → K → ℕ → ℕ → Type 0
  Rank o xs k from to = (i : ℕ) (d : E) → from ≤ i → i < to → rank (key (slice_index_or xs i d)) k ≡ o

  -- where the key stands, or where it would have to stand: those before are below it, those behind above
  abbrev pub Found : List E → K → Result ℕ ℕ → Type 0
  Found xs k (Ok i) = (i < length xs) × Rank Less xs k 0 i × ((d : E) → rank (key (slice_index_or xs i d)) k ≡ Equal) × ((d : E) → lookup k xs ≡ Some (slice_index_or xs i d))
  Found xs k (Err i) = (i ≤ length xs) × Rank Less xs k 0 i × Rank Greater xs k i (length xs) × (lookup k xs ≡ None)

-- The slot table: ranges by their ends, ascending, with limits on how much it holds.
use Rattle.std.specs.Prelude.{ℕ, Bool, true, false, cond, ◌&&◌, List, [], ◌∷◌, length, Some, None, Ok, Err, Option, Result, nat_le}
use Rattle.std.specs.declared.cmp.Ordering.{Ordering}
use Rattle.std.specs.List.{flat_map}
use Rattle.errors.specs.Endings.{answered}
use Rattle.errors.specs.declared.redis_error.Refusal.{Refusal}
use Rattle.errors.specs.declared.redis_error.Refusal.TheVariants.{SlotTable, Unreadable}
use Rattle.node.specs.Ranks.{address_rank}
use Rattle.node.specs.declared.address.NodeAddress.{NodeAddress}
use Rattle.ordered.specs.Table.{put}
use Rattle.resp.specs.Value.{Value}
use Rattle.slot_map.specs.Answer.{ranges}
use Rattle.slot_map.specs.Range.{Range}
use Rattle.std.specs.Ordering.{nat_cmp}

-- each in turn comes into its place, or into the place of the one that has its key
abbrev pub filled : {E K : Type 0} (key : E → K) (rank : K → K → Ordering) → List E → List E → List E
filled key rank t [] = t
filled key rank t (x ∷ xs) = filled key rank (put key rank x t) xs

-- a later range with an equal end replaces an earlier one
abbrev pub table : List Range → List Range
table rs = filled (λ r. r.end) nat_cmp [] rs

-- the one with the smaller end, of those that reach the slot
abbrev pub nearer : ℕ → Range → Option Range → Option Range
nearer slot r None = cond (nat_le slot r.end) (Some r) None
nearer slot r (Some q) = cond (nat_le slot r.end && nat_le r.end q.end) (Some r) (Some q)

-- the range with the smallest end at or above the slot
abbrev pub nearest : ℕ → List Range → Option Range
nearest slot [] = None
nearest slot (r ∷ rs) = nearer slot r (nearest slot rs)

-- if it starts at or below the slot
abbrev pub started : ℕ → Option Range → Option Range
started slot None = None
started slot (Some r) = cond (nat_le r.start slot) (Some r) None

abbrev pub covering : ℕ → List Range → Option Range
covering slot rs = started slot (nearest slot rs)

-- the primary, and unless only primaries are wanted, the replicas
abbrev pub wanted : Bool → Range → List NodeAddress
wanted true r = r.primary ∷ []
wanted false r = r.primary ∷ r.replicas

-- each address once, ascending
abbrev pub distinct : List NodeAddress → List NodeAddress
distinct ns = filled (λ a. a) address_rank [] ns

abbrev pub addresses : Bool → List Range → List NodeAddress
addresses only-primaries rs = distinct (flat_map (wanted only-primaries) rs)

-- none has more than eight replicas
abbrev pub few : List Range → Bool
few [] = true
few (r ∷ rs) = nat_le (length r.replicas) 8 && few rs

-- at most 256 ranges, those that are replaced too
abbrev pub listable : List Range → Bool
listable rs = nat_le (length rs) 256 && few rs

-- and 64 addresses in the table that they make
abbrev pub within : List Range → Bool
within rs = listable rs && nat_le (length (addresses false (table rs))) 64

abbrev pub limited : List Range → Result (List Range) Refusal
limited rs = cond (within rs) (Ok (table rs)) (Err SlotTable)

abbrev pub slots_of : List ℕ → Option Value → Result (List Range) Refusal
slots_of answering None = Err Unreadable
slots_of answering (Some v) = limited (ranges answering v)

-- the table that an answer gives
abbrev pub slots : List ℕ → List ℕ → Result (List Range) Refusal
slots answering bs = slots_of answering (answered bs)

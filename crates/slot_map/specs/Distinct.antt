-- Each address once, in the subject's own words: ascending strictly, with nothing left out and nothing made up.
use Rattle.std.specs.Prelude.{◌≡◌, true, ◌⊎◌, List, [], ◌∷◌}
use Rattle.node.specs.Ranks.{address_rank}
use Rattle.node.specs.declared.address.NodeAddress.{NodeAddress}
use Rattle.ordered.specs.Table.{ascending}

-- x is one of these
abbrev pub Among : {K : Type 0} → K → List K → Type 0
Among x [] = ⊥
Among x (y ∷ ys) = (x ≡ y) ⊎ Among x ys

pub record EachOnce (named ys : List NodeAddress) : Type 0 where
  pub strict : ascending (λ a. a) address_rank ys ≡ true
  pub all : (a : NodeAddress) → Among a named → Among a ys
  pub only : (a : NodeAddress) → Among a ys → Among a named

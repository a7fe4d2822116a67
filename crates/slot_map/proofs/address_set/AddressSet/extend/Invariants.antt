use Rattle.std.proofs.Common.{◌≡◌, drop}
use Rattle.node.specs.Ranks.{address_rank}
use Rattle.slot_map.specs.Sets.{set_of}
use Rattle.slot_map.specs.Table.{filled}
use Rattle.slot_map.proofs.address_set.AddressSet.extend.Given as goal

abbrev pub invariant-loop-address : goal.invariant-loop-address
invariant-loop-address l =
    filled (λ a. a) address_rank (set_of l.self) (drop l.address-index l.addresses) ≡ filled (λ a. a) address_rank (set_of l.initial.self) l.addresses

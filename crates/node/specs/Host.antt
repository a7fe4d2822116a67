-- A host.
use Rattle.std.specs.Prelude.{ℕ, Bool, ◌&&◌, List, length, nat_le}
use Rattle.std.specs.List.{list_all}

-- an ASCII byte above the blank and below DEL
abbrev pub visible : ℕ → Bool
visible b = nat_le 0x21 b && nat_le b 0x7E

abbrev pub all_visible : List ℕ → Bool
all_visible = list_all visible

-- a host: 1 to 64 visible bytes
abbrev pub host_form : List ℕ → Bool
host_form bs = nat_le 1 (length bs) && nat_le (length bs) 64 && all_visible bs

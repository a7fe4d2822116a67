-- A host and a port.
use Rattle.std.specs.Prelude.{ℕ, List, take}
use Rattle.node.specs.declared.split.Split.{Split}

pub record Named : Type 0 where
  pub host : List ℕ
  pub port : ℕ

-- what a split of the text names
abbrev pub parted : List ℕ → Split → Named
parted text s = record { host = take s.host text; port = s.port }

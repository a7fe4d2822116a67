-- The rule for a text that names an address, in its own words.
use Rattle.std.specs.Prelude.{◌≡◌, ℕ, ◌≤◌, ◌≢◌, List, ◌∷◌, ◌++◌, length, Some, None, decimal, Option}
use Rattle.std.specs.List.{AllByRecursion}
use Rattle.node.specs.Named.{Named}

-- from 0x21 to 0x7E, and no colon, `[` or `]`
abbrev pub HostByte : ℕ → Type 0
HostByte b = (0x21 ≤ b) × (b ≤ 0x7E) × (b ≢ 0x3A) × (b ≢ 0x5B) × (b ≢ 0x5D)

-- the text is the host, one colon, and the port in decimal, which `decimal` writes with no sign and no leading zero
pub record Readable (text host : List ℕ) (port : ℕ) : Type 0 where
  pub written : text ≡ host ++ (0x3A ∷ decimal port)
  pub some : 1 ≤ length host
  pub short : length host ≤ 64
  pub plain : AllByRecursion HostByte host
  pub low : 1 ≤ port
  pub high : port ≤ 65535

-- an answer that is right by the rule
abbrev pub Answer : List ℕ → Option Named → Type 0
Answer text None = (host : List ℕ) (port : ℕ) → Readable text host port → ⊥
Answer text (Some n) = Readable text n.host n.port

-- a reader that finds each reading, and nothing else, so that a text has one reading at most
pub record Readings (read : List ℕ → Option Named) : Type 0 where
  pub right : (text : List ℕ) (n : Named) → read text ≡ Some n → Readable text n.host n.port
  pub complete : (text : List ℕ) (n : Named) → Readable text n.host n.port → read text ≡ Some n
  pub single : (text : List ℕ) (m n : Named) → Readable text m.host m.port → Readable text n.host n.port → m ≡ n

-- Texts, and what they read as.
use Rattle.std.proofs.Common.{◌≡◌, ℕ, List, [], ◌∷◌, ◌++◌, map, replicate, Some, None, codes, refl}
use Rattle.node.specs.Text.{readable}

numeric_host : readable (codes "127.0.0.1:6379") ≡ Some (record { host = codes "127.0.0.1"; port = 6379 })
numeric_host = refl

largest_port : readable (codes "h:65535") ≡ Some (record { host = codes "h"; port = 65535 })
largest_port = refl

longest_host : readable (replicate 64 0x68 ++ codes ":1") ≡ Some (record { host = replicate 64 0x68; port = 1 })
longest_host = refl

abbrev other_ports : List (List ℕ)
other_ports = codes "h:0" ∷ codes "h:01" ∷ codes "h:+1" ∷ codes "h:65536" ∷ codes "h:" ∷ codes "h:1 " ∷ []

abbrev other_hosts : List (List ℕ)
other_hosts =
    [] ∷ codes "h" ∷ codes ":1" ∷ codes "[h]:1" ∷ codes "a:b:1" ∷ codes "::1:5" ∷ codes "a b:1" ∷ (0xC3 ∷ 0xA9 ∷ codes ":1") ∷ (replicate 65 0x68 ++ codes ":1") ∷ []

not_ports : map readable other_ports ≡ replicate 6 None
not_ports = refl

not_hosts : map readable other_hosts ≡ replicate 9 None
not_hosts = refl

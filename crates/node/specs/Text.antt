-- What a text reads as: a host, a colon and a port.
use Rattle.std.specs.Prelude.{ℕ, Bool, cond, not, ◌&&◌, List, [], ◌∷◌, length, take, drop, None, Option, ◌==◌, nat_le}
use Rattle.std.specs.List.{take_while}
use Rattle.std.specs.Option.{option_map}
use Rattle.node.specs.Host.{visible}
use Rattle.node.specs.Port.{port_of}
use Rattle.node.specs.Named.{Named}

-- a visible byte that is no colon and no bracket
abbrev pub plain : ℕ → Bool
plain b = visible b && not (b == 0x3A) && not (b == 0x5B) && not (b == 0x5D)

-- how many bytes at the front are plain
abbrev pub host_len : List ℕ → ℕ
host_len bs = length (take_while plain bs)

-- a colon at the front, and a port behind it
abbrev pub port_behind : List ℕ → Option ℕ
port_behind [] = None
port_behind (b ∷ bs) = cond (b == 0x3A) (port_of bs) None

-- the first n bytes as a host, if n is a host's length, and the port behind them
abbrev pub reading : ℕ → List ℕ → Option Named
reading n text = cond (nat_le 1 n && nat_le n 64) (option_map (λ p. record { host = take n text; port = p }) (port_behind (drop n text))) None

abbrev pub readable : List ℕ → Option Named
readable text = reading (host_len text) text

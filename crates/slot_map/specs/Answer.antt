-- What an answer to CLUSTER SLOTS says, after the command's page: an array of ranges, each an array of its first slot, its last
-- slot and its nodes, each an array of host, port and more. `answering` is the host that answered.
use Rattle.std.specs.Prelude.{ℕ, ◌-◌, ◌%◌, Bool, cond, ◌||◌, List, [], ◌∷◌, ◌++◌, ℤ, pos, negsuc, is_some, Some, None, codes, Option, nat_lt}
use Rattle.std.specs.Option.{option_map, option_to_list}
use Rattle.std.specs.Str.{bytes_eq}
use Rattle.node.specs.Made.{address}
use Rattle.node.specs.declared.address.NodeAddress.{NodeAddress}
use Rattle.resp.specs.Value.{Value, simple_string, simple_error, integer, bulk_string, null, array, Values, none, more}
use Rattle.slot_map.specs.Range.{Range}

abbrev pub array_of : Value → Option Values
array_of (simple_string t) = None
array_of (simple_error t) = None
array_of (integer z) = None
array_of (bulk_string t) = None
array_of null = None
array_of (array vs) = Some vs

abbrev pub integer_of : Value → Option ℤ
integer_of (simple_string t) = None
integer_of (simple_error t) = None
integer_of (integer z) = Some z
integer_of (bulk_string t) = None
integer_of null = None
integer_of (array vs) = None

-- no host at all, or every address of a machine
abbrev pub unnamed : List ℕ → Bool
unnamed t = bytes_eq t [] || bytes_eq t (codes "0.0.0.0") || bytes_eq t (codes "::")

-- `?` is a node that is not known
abbrev pub named : List ℕ → List ℕ → Option (List ℕ)
named answering t = cond (unnamed t) (Some answering) (cond (bytes_eq t (codes "?")) None (Some t))

abbrev pub host : List ℕ → Value → Option (List ℕ)
host answering (simple_string t) = None
host answering (simple_error t) = None
host answering (integer z) = None
host answering (bulk_string t) = named answering t
host answering null = Some answering
host answering (array vs) = None

abbrev pub in_16_bits : Option ℤ → Option ℕ
in_16_bits None = None
in_16_bits (Some (pos n)) = cond (nat_lt n 65536) (Some n) None
in_16_bits (Some (negsuc n)) = None

abbrev pub port : Value → Option ℕ
port v = in_16_bits (integer_of v)

abbrev pub located : Option (List ℕ) → Option ℕ → Option NodeAddress
located None p = None
located (Some h) None = None
located (Some h) (Some p) = address h p

abbrev pub node_of : List ℕ → Option Values → Option NodeAddress
node_of answering None = None
node_of answering (Some none) = None
node_of answering (Some (more v none)) = None
node_of answering (Some (more v (more w vs))) = located (host answering v) (port w)

-- a node's address, if the node is usable
abbrev pub node : List ℕ → Value → Option NodeAddress
node answering v = node_of answering (array_of v)

abbrev pub nodes : List ℕ → Values → List NodeAddress
nodes answering none = []
nodes answering (more v vs) = option_to_list (node answering v) ++ nodes answering vs

-- slots are numbers modulo 65,536
abbrev pub slot : ℤ → ℕ
slot (pos n) = n % 65536
slot (negsuc n) = 65535 - n % 65536

abbrev pub slot_of : Value → Option ℕ
slot_of v = option_map slot (integer_of v)

-- the first usable node is the primary
abbrev pub served : ℕ → ℕ → List NodeAddress → Option Range
served s e [] = None
served s e (n ∷ ns) = Some (record { start = s; end = e; primary = n; replicas = ns })

abbrev pub bounded : Option ℕ → Option ℕ → List NodeAddress → Option Range
bounded None e ns = None
bounded (Some s) None ns = None
bounded (Some s) (Some e) ns = served s e ns

abbrev pub range_of_items : List ℕ → Option Values → Option Range
range_of_items answering None = None
range_of_items answering (Some none) = None
range_of_items answering (Some (more s none)) = None
range_of_items answering (Some (more s (more e vs))) = bounded (slot_of s) (slot_of e) (nodes answering vs)

-- a range, if there are two integers and a usable node
abbrev pub range : List ℕ → Value → Option Range
range answering v = range_of_items answering (array_of v)

-- the ranges up to the first item that is no array
abbrev pub usable : List ℕ → Values → List Range
usable answering none = []
usable answering (more v vs) = cond (is_some (array_of v)) (option_to_list (range answering v) ++ usable answering vs) []

abbrev pub ranges_of_items : List ℕ → Option Values → List Range
ranges_of_items answering None = []
ranges_of_items answering (Some vs) = usable answering vs

-- no array, no ranges
abbrev pub ranges : List ℕ → Value → List Range
ranges answering v = ranges_of_items answering (array_of v)

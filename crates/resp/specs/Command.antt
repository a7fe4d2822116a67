-- A command: an array of 1 to 64 bulk strings, the first not empty, in at most 16,384 bytes.
use Rattle.std.specs.Prelude.{◌≡◌, ℕ, ◌<◌, ◌≤◌, cond, ◌&&◌, List, [], ◌∷◌, length, Some, None, Option, ◌==◌, nat_le, nat_lt}
use Rattle.resp.specs.Read.{Read}
use Rattle.resp.specs.Reading.{value}
use Rattle.resp.specs.Standing.{Stands}
use Rattle.resp.specs.Told.{part}
use Rattle.resp.specs.Value.{Value, simple_string, simple_error, integer, bulk_string, null, array, Values, none, more}
use Rattle.resp.specs.declared.place.Command.{Command}

-- words as the elements of an array
abbrev pub bulks : List (List ℕ) → Values
bulks [] = none
bulks (w ∷ ws) = more (bulk_string w) (bulks ws)

abbrev pub Commands : List (List ℕ) → List ℕ → Type 0
Commands [] bs = ⊥
Commands (w ∷ ws) bs = (0 < length w) × (length (w ∷ ws) ≤ 64) × (length bs ≤ 16384) × Stands (array (bulks (w ∷ ws))) bs

-- the words of a command, as they are read
abbrev pub consed : List ℕ → Option (List (List ℕ)) → Option (List (List ℕ))
consed w None = None
consed w (Some ws) = Some (w ∷ ws)

abbrev pub word : Value → Option (List (List ℕ)) → Option (List (List ℕ))
word (simple_string t) ws = None
word (simple_error t) ws = None
word (integer z) ws = None
word (bulk_string t) ws = consed t ws
word null ws = None
word (array vs) ws = None

abbrev pub words : Values → Option (List (List ℕ))
words none = Some []
words (more v vs) = word v (words vs)

abbrev pub lawful : Option (List (List ℕ)) → Option (List (List ℕ))
lawful None = None
lawful (Some []) = None
lawful (Some (w ∷ ws)) = cond (nat_lt 0 (length w) && nat_le (length (w ∷ ws)) 64) (Some (w ∷ ws)) None

abbrev pub elements_of : Value → Option (List (List ℕ))
elements_of (simple_string t) = None
elements_of (simple_error t) = None
elements_of (integer z) = None
elements_of (bulk_string t) = None
elements_of null = None
elements_of (array vs) = lawful (words vs)

abbrev pub alone : Option (Read Value) → Option (List (List ℕ))
alone None = None
alone (Some x) = cond (length x.rest == 0) (elements_of x.value) None

abbrev pub command : List ℕ → Option (List (List ℕ))
command bs = cond (nat_le (length bs) 16384) (alone (value 1 bs)) None

-- what the code tells of it: how many words, and where the first stands
abbrev pub Told : List ℕ → Option (List (List ℕ)) → Option Command → Type 0
Told bs None r = r ≡ None
Told bs (Some []) r = ⊥
Told bs (Some (w ∷ ws)) r = (c : Command) × (r ≡ Some c) × (c.count ≡ length (w ∷ ws)) × (part bs c.first ≡ w)

-- and in both directions: a command that the bytes stand for, or that there is none
abbrev pub Commanded : List ℕ → Option Command → Type 0
Commanded bs None = (ws : List (List ℕ)) → Commands ws bs → ⊥
Commanded bs (Some c) = (w : List ℕ) × (ws : List (List ℕ)) × Commands (w ∷ ws) bs × (c.count ≡ length (w ∷ ws)) × (part bs c.first ≡ w)

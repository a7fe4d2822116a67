-- The bytes that the client writes for a value, and what writing does to memory.
use Rattle.std.specs.Prelude.{◌≡◌, ℕ, ◌+◌, ◌<◌, ◌≤◌, List, ◌∷◌, ◌++◌, length, take, drop, ℤ, Some, None, Option}
use Rattle.std.specs.Fmt as fmt
use Rattle.resp.specs.Read.{read}
use Rattle.resp.specs.Reading.{value}
use Rattle.resp.specs.Standing.{crlf, Stands, Follow}
use Rattle.resp.specs.Value.{Value, array, Values, count, depth}

abbrev pub bulk_text : List ℕ → List ℕ
bulk_text t = 36 ∷ (fmt.decimal (length t) ++ (crlf ++ (t ++ crlf)))

abbrev pub integer_text : ℤ → List ℕ
integer_text z = 58 ∷ (fmt.signed_decimal z ++ crlf)

abbrev pub nil_text : List ℕ
nil_text = 36 ∷ 45 ∷ 49 ∷ crlf

abbrev pub array_text : ℕ → List ℕ
array_text n = 42 ∷ (fmt.decimal n ++ crlf)

-- the text from `at` on, and every other byte as it was; or no room, and nothing changed
abbrev pub Written : List ℕ → ℕ → List ℕ → List ℕ → Option ℕ → Type 0
Written text at old new None = (new ≡ old) × (length old < at + length text)
Written text at old new (Some end) = (end ≡ at + length text) × (end ≤ length old) × (new ≡ take at old ++ (text ++ drop end old))

-- what is written reads back as the value, whatever follows
abbrev pub ReadsBack : Value → List ℕ → Type 0
ReadsBack v text = Stands v text × ((d : ℕ) (rest : List ℕ) → depth v ≤ d → value d (text ++ rest) ≡ read v rest)

-- an array's head, with as many elements behind it
abbrev pub Heads : ℕ → Type 0
Heads n = (vs : Values) (es : List ℕ) → count vs ≡ n → Follow vs es → ReadsBack (array vs) (array_text n ++ es)

-- Which bytes stand for a value, after the RESP specification.
use Rattle.std.specs.Prelude.{◌≡◌, ℕ, ◌≤◌, false, ◌⊎◌, List, [], ◌∷◌, ◌++◌, length, take, Some, None, Option}
use Rattle.resp.specs.Line.{breaks}
use Rattle.resp.specs.Number.{natural, signed}
use Rattle.resp.specs.Read.{read}
use Rattle.resp.specs.Reading.{value}
use Rattle.resp.specs.Told.{text_at}
use Rattle.resp.specs.Value.{Value, simple_string, simple_error, integer, bulk_string, null, array, Values, none, more, count, depth, first_error}
use Rattle.resp.specs.declared.place.Walk.{Walk}

abbrev pub crlf : List ℕ
crlf = 13 ∷ 10 ∷ []

-- neither CR nor LF
abbrev pub Plain : List ℕ → Type 0
Plain [] = Unit {0}
Plain (b ∷ bs) = (breaks b ≡ false) × Plain bs

abbrev mutual
  pub Stands : Value → List ℕ → Type 0
  Stands (simple_string t) bs = Plain t × (bs ≡ 43 ∷ (t ++ crlf))
  Stands (simple_error t) bs = Plain t × (bs ≡ 45 ∷ (t ++ crlf))
  Stands (integer z) bs = (t : List ℕ) × (signed t ≡ Some z) × (bs ≡ 58 ∷ (t ++ crlf))
  Stands (bulk_string t) bs = (n : List ℕ) × (natural n ≡ Some (length t)) × (bs ≡ 36 ∷ (n ++ (crlf ++ (t ++ crlf))))
  Stands null bs = (bs ≡ 36 ∷ 45 ∷ 49 ∷ crlf) ⊎ (bs ≡ 42 ∷ 45 ∷ 49 ∷ crlf)
  Stands (array vs) bs = (n : List ℕ) × (es : List ℕ) × (natural n ≡ Some (count vs)) × (bs ≡ 42 ∷ (n ++ (crlf ++ es))) × Follow vs es

  -- the elements, one behind the other
  pub Follow : Values → List ℕ → Type 0
  Follow none bs = bs ≡ []
  Follow (more v vs) bs = (a : List ℕ) × (b : List ℕ) × (bs ≡ a ++ b) × Stands v a × Follow vs b

-- what is read stands for the value, with nothing nested deeper than allowed
abbrev pub Sound : Type 0
Sound = (d : ℕ) (bs rest : List ℕ) (v : Value) → value d bs ≡ read v rest → (front : List ℕ) × (bs ≡ front ++ rest) × Stands v front × (depth v ≤ d)

-- what stands for a value is read, whatever follows it
abbrev pub Complete : Type 0
Complete = (d : ℕ) (front rest : List ℕ) (v : Value) → Stands v front → depth v ≤ d → value d (front ++ rest) ≡ read v rest

-- no bytes begin with two values
abbrev pub Unambiguous : Type 0
Unambiguous = (v w : Value) (a b r s : List ℕ) → Stands v a → Stands w b → a ++ r ≡ b ++ s → (v ≡ w) × (a ≡ b) × (r ≡ s)

-- what a reader told: a value that stands there, or that none does
abbrev pub Stood : ℕ → List ℕ → Option Walk → Type 0
Stood d bs None = (v : Value) (front rest : List ℕ) → bs ≡ front ++ rest → Stands v front → depth v ≤ d → ⊥
Stood d bs (Some w) = (v : Value) × Stands v (take w.len bs) × (depth v ≤ d) × (first_error v ≡ text_at bs w.error)

-- The values of RESP2, and how deep arrays are nested in one.
use Rattle.std.specs.Prelude.{ℕ, suc, max, List, ℤ, Some, None, Option}

mutual
  pub data Value : Type 0 where
    simple_string : List ℕ → Value
    simple_error : List ℕ → Value
    integer : ℤ → Value
    bulk_string : List ℕ → Value
    null : Value
    array : Values → Value

  -- an array's elements
  pub data Values : Type 0 where
    none : Values
    more : Value → Values → Values

abbrev pub count : Values → ℕ
count none = 0
count (more v vs) = suc (count vs)

abbrev mutual
  pub depth : Value → ℕ
  depth (simple_string t) = 0
  depth (simple_error t) = 0
  depth (integer z) = 0
  depth (bulk_string t) = 0
  depth null = 0
  depth (array vs) = suc (deepest vs)

  pub deepest : Values → ℕ
  deepest none = 0
  deepest (more v vs) = max (depth v) (deepest vs)

abbrev pub or_else : {A : Type 0} → Option A → Option A → Option A
or_else None later = later
or_else (Some x) later = Some x

-- the text of the first error in the order of the bytes, at any depth
abbrev mutual
  pub first_error : Value → Option (List ℕ)
  first_error (simple_string t) = None
  first_error (simple_error t) = Some t
  first_error (integer z) = None
  first_error (bulk_string t) = None
  first_error null = None
  first_error (array vs) = first_in vs

  pub first_in : Values → Option (List ℕ)
  first_in none = None
  first_in (more v vs) = or_else (first_error v) (first_in vs)

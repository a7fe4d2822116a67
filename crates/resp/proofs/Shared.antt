-- What two readings share.
use Rattle.std.proofs.Common.{◌≡◌, ℕ, List, Some, None, Option, ap}
use Rattle.resp.specs.Read.{Read, read}

module _ {A : Type 0} where
  abbrev value_of : A → Option (Read A) → A
  value_of d None = d
  value_of d (Some x) = x.value

  abbrev rest_of : List ℕ → Option (Read A) → List ℕ
  rest_of d None = d
  rest_of d (Some x) = x.rest

  pub same_value : {x y : A} {a b : List ℕ} → read x a ≡ read y b → x ≡ y
  same_value {x} e = ap (value_of x) e

  pub same_rest : {x y : A} {a b : List ℕ} → read x a ≡ read y b → a ≡ b
  same_rest {a = a} e = ap (rest_of a) e

-- What was read at the front of some bytes, and the bytes behind it.
use Rattle.std.specs.Prelude.{ℕ, List, Some, None, Option}

pub record Read (A : Type 0) : Type 0 where
  pub value : A
  pub rest : List ℕ

abbrev pub read : {A : Type 0} → A → List ℕ → Option (Read A)
read x rest = Some (record { value = x; rest = rest })

-- one reading after another
abbrev pub then : {A B : Type 0} → Option (Read A) → (A → List ℕ → Option (Read B)) → Option (Read B)
then None f = None
then (Some x) f = f x.value x.rest

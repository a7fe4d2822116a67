-- The entries of a tape.
use Rattle.std.specs.Prelude.{ℕ, ◌+◌, ◌*◌, ◌<◌, ◌≤◌, cond, List, [], ◌∷◌, length, take, drop, Some, None, Option, codes, ◌==◌, nat_le}
use Rattle.resp.specs.Read.{Read, read}
use Rattle.resp.specs.Told.{part, Inside}
use Rattle.tape.specs.declared.entry.Entry.{Entry}
use Rattle.tape.specs.declared.entry.Kind.{Kind}
use Rattle.tape.specs.declared.entry.Kind.TheVariants.{Answer, Dropped, Denied, Other}

abbrev pub kind : ℕ → Kind
kind b = cond (b == 0) Answer (cond (b == 1) Dropped (cond (b == 2) Denied Other))

-- as a report names it
abbrev pub name : Kind → List ℕ
name Answer = codes "answer"
name Dropped = codes "dropped"
name Denied = codes "denied"
name Other = codes "other"

pub record Played : Type 0 where
  pub plays : Kind
  pub bytes : List ℕ

-- so many bytes behind the entry's head
abbrev pub body : Kind → ℕ → List ℕ → Option (Read Played)
body k n bs = cond (nat_le n (length bs)) (read (record { plays = k; bytes = take n bs }) (drop n bs)) None

abbrev pub entry : List ℕ → Option (Read Played)
entry [] = None
entry (k ∷ []) = None
entry (k ∷ low ∷ []) = None
entry (k ∷ low ∷ high ∷ bs) = body (kind k) (low + 256 * high) bs

-- what the code's numbers tell of it
abbrev pub told : List ℕ → Option Entry → Option (Read Played)
told tape None = None
told tape (Some e) = read (record { plays = e.kind; bytes = part tape e.bytes }) (drop e.len tape)

abbrev pub Within : List ℕ → Option Entry → Type 0
Within tape None = Unit {0}
Within tape (Some e) = Inside (length tape) e.bytes × (0 < e.len) × (e.len ≤ length tape)

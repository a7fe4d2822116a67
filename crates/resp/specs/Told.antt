-- What the code's numbers tell of the bytes in which they name places.
use Rattle.std.specs.Prelude.{◌≡◌, ℕ, ◌+◌, ◌-◌, ◌≤◌, List, length, take, drop, Some, None, Option}
use Rattle.std.specs.Option.{option_map}
use Rattle.resp.specs.Line.{line}
use Rattle.resp.specs.Place.{cut}
use Rattle.resp.specs.Read.{Read, read}
use Rattle.resp.specs.Reading as reading
use Rattle.resp.specs.Reading.{whole, elements}
use Rattle.resp.specs.Value.{Value, simple_string, simple_error, integer, bulk_string, null, first_error}
use Rattle.resp.specs.declared.place.Place.{Place}
use Rattle.resp.specs.declared.place.Head.{Head}
use Rattle.resp.specs.declared.place.Head.TheVariants.{Simple, Error, Integer, Bulk, Nil, Array}
use Rattle.resp.specs.declared.place.Size.{Size}
use Rattle.resp.specs.declared.place.Token.{Token}
use Rattle.resp.specs.declared.place.Walk.{Walk}

abbrev pub part : List ℕ → Place → List ℕ
part bs p = take (p.end - p.start) (drop p.start bs)

abbrev pub shown : List ℕ → Head → reading.Head
shown bs (Simple p) = whole (simple_string (part bs p))
shown bs (Error p) = whole (simple_error (part bs p))
shown bs (Integer z) = whole (integer z)
shown bs (Bulk p) = whole (bulk_string (part bs p))
shown bs Nil = whole null
shown bs (Array n) = elements n

abbrev pub told : List ℕ → Option Token → Option (Read reading.Head)
told bs None = None
told bs (Some t) = read (shown bs t.head) (drop t.len bs)

-- a line behind a type byte, of whose text H tells by a head
abbrev pub Texted : (Place → Head → Type 0) → List ℕ → Option Token → Type 0
Texted H rest None = None ≡ line rest
Texted H rest (Some t) = (n : ℕ) × (t.len ≡ n + 3) × (n + 2 ≤ length rest) × (cut rest (Some n) ≡ line rest) × H (record { start = 1; end = n + 1 }) t.head

-- a place in n bytes
abbrev pub Inside : ℕ → Place → Type 0
Inside n p = (p.start ≤ p.end) × (p.end ≤ n)

abbrev pub Lies : ℕ → Head → Type 0
Lies n (Simple p) = Inside n p
Lies n (Error p) = Inside n p
Lies n (Integer z) = Unit {0}
Lies n (Bulk p) = Inside n p
Lies n Nil = Unit {0}
Lies n (Array k) = Unit {0}

abbrev pub Within : List ℕ → Option Token → Type 0
Within bs None = Unit {0}
Within bs (Some t) = (t.len ≤ length bs) × Lies (length bs) t.head

-- a token, or none, as the bytes have it at their front
abbrev pub Tells : List ℕ → Option Token → Type 0
Tells bs r = Within bs r × (told bs r ≡ reading.head bs)

abbrev pub told_size : List ℕ → Option Size → Option (Read (Option ℕ))
told_size bs None = None
told_size bs (Some s) = read s.count (drop s.len bs)

abbrev pub Counts : ℕ → Size → Option ℕ → Type 0
Counts n s None = s.len ≤ n
Counts n s (Some k) = s.len + k ≤ n

abbrev pub Sized : List ℕ → Option Size → Type 0
Sized bs None = Unit {0}
Sized bs (Some s) = Counts (length bs) s s.count

-- of a value that was read, the text of the first error in it
abbrev pub seen : Option (Read Value) → Option (Read (Option (List ℕ)))
seen None = None
seen (Some x) = read (first_error x.value) x.rest

abbrev pub text_at : List ℕ → Option Place → Option (List ℕ)
text_at bs None = None
text_at bs (Some p) = Some (part bs p)

-- the same place, counted from n bytes further back
abbrev pub further : ℕ → Place → Place
further n p = record { start = n + p.start; end = n + p.end }

abbrev pub moved : ℕ → Option Place → Option Place
moved n None = None
moved n (Some p) = Some (further n p)

abbrev pub told_walk : List ℕ → Option Walk → Option (Read (Option (List ℕ)))
told_walk bs None = None
told_walk bs (Some w) = read (text_at bs w.error) (drop w.len bs)

-- the same of bytes that are one value, where a walk goes over all of them
abbrev pub told_whole : List ℕ → Option Walk → Option (Option (List ℕ))
told_whole bs r = option_map (λ w. text_at bs w.error) r

abbrev pub Errs : ℕ → Option Place → Type 0
Errs n None = Unit {0}
Errs n (Some p) = Inside n p

abbrev pub Walked : List ℕ → Option Walk → Type 0
Walked bs None = Unit {0}
Walked bs (Some w) = (w.len ≤ length bs) × Errs (length bs) w.error

-- What the reader tells, in both directions.
use Rattle.std.proofs.Common.{◌≡◌, ℕ, List, length, take, drop, Some, None, Option, sym, ap, ◌∙◌, subst, arith, length-append}
use Rattle.std.proofs.lemmas.List.{take_at, length-drop}
use Rattle.resp.proofs.Readings.{value_sound, value_complete}
use Rattle.resp.proofs.Shared.{same_value, same_rest}
use Rattle.resp.proofs.Standings.{none_read}
use Rattle.resp.specs.Read.{Read, read}
use Rattle.resp.specs.Reading.{value}
use Rattle.resp.specs.Standing.{Stands, Stood}
use Rattle.resp.specs.Told.{text_at, seen, told_walk, Walked}
use Rattle.resp.specs.Value.{Value, first_error}
use Rattle.resp.specs.declared.place.Walk.{Walk}

seen_read : (r : Option (Read Value)) (e : Option (List ℕ)) (rest : List ℕ) → read e rest ≡ seen r → (v : Value) × (r ≡ read v rest) × (first_error v ≡ e)
seen_read None e rest h = absurd (none_read (sym h))
seen_read (Some x) e rest h = (x.value, ap (read x.value) (sym (same_rest h)), sym (same_value h))

pub stood : (d : ℕ) (bs : List ℕ) (r : Option Walk) → Walked bs r → told_walk bs r ≡ seen (value d bs) → Stood d bs r
stood d bs None within told = λ v front rest is stands deep.
    none_read {rest = rest} (told ∙ ap (λ l. seen (value d l)) is ∙ ap seen (value_complete d front rest v stands deep))
stood d bs (Some w) within told =
    let x = seen_read (value d bs) (text_at bs w.error) (drop w.len bs) told in
    let f = value_sound d bs (drop w.len bs) x.0 x.1 in
    let long : length f.0 ≡ w.len = omega (arith, within.0, ap length f.1, length-append f.0 (drop w.len bs), length-drop w.len bs) in
    let front : f.0 ≡ take w.len bs = sym (take_at f.0 (drop w.len bs) w.len long) ∙ ap (take w.len) (sym f.1) in
    (x.0, subst (Stands x.0) front f.2, f.3, x.2)

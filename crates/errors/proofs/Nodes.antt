-- A place in a part of the bytes.
use Rattle.std.proofs.Common.{◌≡◌, ℕ, ◌+◌, ◌-◌, List, length, take, drop, sym, ap, ◌∙◌, arith, length-take}
use Rattle.std.proofs.lemmas.List.{take-take, drop-take}
use Rattle.resp.specs.Told.{part, Inside}
use Rattle.resp.specs.declared.place.Place.{Place}

pub inner_part : (bs : List ℕ) (d p : Place) → Inside (length (part bs d)) p → part (drop d.start bs) p ≡ part (part bs d) p
inner_part bs d p inside =
    let k = d.end - d.start in
    let xs = drop d.start bs in
    let long = length-take k xs in
    let split : p.start + (k - p.start) ≡ k = omega arith in
    sym (ap (λ j. take (p.end - p.start) (drop p.start (take j xs))) (sym split)
    ∙ ap (take (p.end - p.start)) (drop-take p.start (k - p.start) xs)
    ∙ take-take (p.end - p.start) (k - p.start) (drop p.start xs) (omega arith))

-- From the value that an answer is to how it ends.
use Rattle.std.proofs.Common.{◌≡◌, ℕ, List, Some, None, Option, sym, ap, ◌∙◌, refl}
use Rattle.std.specs.Option.{ok_or, option_map, option_map_or}
use Rattle.std.specs.Result.{MatchResult}
use Rattle.resp.specs.Told.{text_at, told_whole}
use Rattle.resp.specs.Value.{Value, first_error}
use Rattle.resp.specs.declared.place.Walk.{Walk}
use Rattle.errors.specs.Endings.{answered}
use Rattle.errors.specs.declared.ending.Ending.{Ending}
use Rattle.errors.specs.declared.ending.Ending.TheVariants.{Parse}

-- what f makes of the first error in a value alone, and g of the ending without one
module _ {X : Type 0} (f : Option (List ℕ) → X) (g : Ending → X) where
  map_or_map : (o : Option Value) → option_map_or (λ v. f (first_error v)) o (g Parse) ≡ option_map_or f (option_map first_error o) (g Parse)
  map_or_map None = refl
  map_or_map (Some v) = refl

  pub walk_told : (bs : List ℕ) (r : Option Walk) → told_whole bs r ≡ option_map first_error (answered bs) →
      MatchResult (ok_or r Parse)
      (λ w. option_map_or (λ v. f (first_error v)) (answered bs) (g Parse) ≡ f (text_at bs w.error))
      (λ e. option_map_or (λ v. f (first_error v)) (answered bs) (g Parse) ≡ g e)
  walk_told bs r found = go r (map_or_map (answered bs) ∙ sym (ap (λ o. option_map_or f o (g Parse)) found))
    where
      go : (r : Option Walk) → {y : X} → y ≡ option_map_or f (told_whole bs r) (g Parse) → MatchResult (ok_or r Parse) (λ w. y ≡ f (text_at bs w.error)) (λ e. y ≡ g e)
      go None is = is
      go (Some w) is = is

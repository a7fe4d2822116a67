-- The words of a report's line.
use Rattle.std.specs.Prelude.{ℕ, List, ◌∷◌, ◌++◌, Some, None, Option, codes, decimal}
use Rattle.std.specs.List.{flat_map}
use Rattle.node.specs.Named.{Named}
use Rattle.report.specs.Shown.{all_shown, shown}
use Rattle.report.specs.declared.show.Word.{Word}
use Rattle.report.specs.declared.words.Address.{Address}

abbrev pub address_word : Named → List ℕ
address_word n = all_shown n.host ++ (58 ∷ decimal n.port)

-- words, each behind a blank
abbrev pub spaced : List (List ℕ) → List ℕ
spaced ws = flat_map (λ w. 32 ∷ w) ws

-- what the code's types print
abbrev pub word_shown : Word → Option (List ℕ)
word_shown w = Some (shown w.0.now)

abbrev pub address_shown : Address → Option (List ℕ)
address_shown a = Some (address_word (record { host = a.host.now; port = a.port }))

abbrev pub or_dash : {A : Type 0} → (A → Option (List ℕ)) → Option A → Option (List ℕ)
or_dash word None = Some (codes "-")
or_dash word (Some x) = word x

-- What each way through the split of a text answers.
use Rattle.std.proofs.Common.{◌≡◌, ℕ, true, false, cond, ◌&&◌, leb, List, take, drop, None, Option, sym, ap, ◌∙◌, subst}
use Rattle.std.specs.Option.{option_map}
use Rattle.node.specs.Named.{Named}
use Rattle.node.specs.Readable.{Answer}
use Rattle.node.specs.Text.{host_len, port_behind, reading, readable}
use Rattle.node.proofs.Readings.{answer}

pub right_answer : (text : List ℕ) (o : Option Named) → o ≡ readable text → Answer text o
right_answer text o e = subst (Answer text) (sym e) (answer text)

module _ (text : List ℕ) (n : ℕ) (is : n ≡ host_len text) where
  abbrev found : Option Named
  found = option_map (λ p. record { host = take n text; port = p }) (port_behind (drop n text))

  pub unfit : (leb 1 n && leb n 64) ≡ false → None ≡ readable text
  unfit e = sym (ap (λ b. cond b found None) e) ∙ ap (λ k. reading k text) is

  pub by_port : (leb 1 n && leb n 64) ≡ true → (o : Option ℕ) → o ≡ port_behind (drop n text) → option_map (λ p. record { host = take n text; port = p }) o ≡ readable text
  by_port fit o e =
      ap (option_map (λ p. record { host = take n text; port = p })) e ∙ sym (ap (λ b. cond b found None) fit) ∙ ap (λ k. reading k text) is

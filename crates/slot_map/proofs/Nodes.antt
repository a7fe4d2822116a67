-- A node: its host, its port, and more.
use Rattle.std.proofs.Common.{◌≡◌, ℕ, zero, suc, ◌<◌, List, Some, None, sym, refl, ap, ◌∙◌, arith}
use Rattle.resp.specs.Value.{Value, array, Values, none, more}
use Rattle.slot_map.proofs.Elements.{Laid, next, none_left}
use Rattle.slot_map.specs.Answer.{host, port, located, node_of, node}
use Rattle.slot_map.specs.Front.{Follow}

few : (answering : List ℕ) (d n : ℕ) (bs behind : List ℕ) (vs : Values) → n < 2 → Follow d n bs vs behind → None ≡ node_of answering (Some vs)
few answering d zero bs behind vs h f = ap (λ us. node_of answering (Some us)) (none_left d bs behind vs f)
few answering d (suc zero) bs behind vs h f =
    let x = next d 0 bs behind vs f in
    sym (ap (λ us. node_of answering (Some us)) (x.is ∙ ap (more x.first) (sym (none_left d x.rest behind x.others x.follow))))
few answering d (suc (suc n)) bs behind vs h f = absurd (omega arith)

-- fewer than a host and a port are no node
pub few_fields : (answering : List ℕ) (d n : ℕ) (bs behind : List ℕ) (v : Value) → n < 2 → Laid d n bs behind v → None ≡ node answering v
few_fields answering d n bs behind v h e = few answering d n bs behind e.values h e.follow ∙ sym (ap (node answering) e.is)

-- what the elements of its array make of it
module _ (answering : List ℕ) (v : Value) (vs : Values) (is : v ≡ array vs) where
  module _ (first : Value) (others : Values) (begins : vs ≡ more first others) where
    whole : node answering v ≡ node_of answering (Some (more first others))
    whole = ap (node answering) is ∙ ap (λ us. node_of answering (Some us)) begins

    pub no_host : None ≡ host answering first → None ≡ node answering v
    no_host h = go others ∙ sym whole
      where
        go : (us : Values) → None ≡ node_of answering (Some (more first us))
        go none = refl
        go (more second us) = ap (λ o. located o (port second)) h

    module _ (second : Value) (rest : Values) (goes_on : others ≡ more second rest) where
      pub two_fields : located (host answering first) (port second) ≡ node answering v
      two_fields = sym (whole ∙ ap (λ us. node_of answering (Some (more first us))) goes_on)

      pub no_port : (h : List ℕ) → Some h ≡ host answering first → None ≡ port second → None ≡ node answering v
      no_port h e k = (λ i. located (e i) (k i)) ∙ two_fields

      pub whole_node : (h : List ℕ) (p : ℕ) → Some h ≡ host answering first → Some p ≡ port second → located (Some h) (Some p) ≡ node answering v
      whole_node h p e k = (λ i. located (e i) (k i)) ∙ two_fields

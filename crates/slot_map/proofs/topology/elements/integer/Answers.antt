use Rattle.std.proofs.Common.{◌∙◌, w64, rules}
use Rattle.std.proofs.lemmas.Int.{to_z-of_z}
use Rattle.std.proofs.lemmas.List.{take_rest}
use Rattle.resp.specs.declared.place.Head.TheVariants.{Integer}
use Rattle.slot_map.specs.Front.{Begins}
use Rattle.slot_map.proofs.Elements.{kind}
use Rattle.slot_map.proofs.topology.elements.integer.Goals as goal

pub returns-in_err-token : goal.returns-in_err-token
unfolding Begins
returns-in_err-token c = search rules

pub returns-in-Integer : goal.returns-in-Integer
returns-in-Integer c d v rest begins =
    let t = c.in_ok-token in
    let here = kind d c.args.bytes.now rest v begins t.token (Integer c.in-Integer.z) t.ensures.value c.in-Integer.is in
    rw (to_z-of_z w64 c.in-Integer.z (search rules)) (here.0, take_rest c.args.bytes.now t.token.len ∙ here.1)

pub returns-in_default : goal.returns-in_default
unfolding Begins
returns-in_default c = search rules

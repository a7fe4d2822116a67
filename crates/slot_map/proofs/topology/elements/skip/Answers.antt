use Rattle.std.proofs.Common.{Some, ap, ◌∙◌}
use Rattle.std.proofs.lemmas.List.{take_rest}
use Rattle.slot_map.proofs.Elements.{walked, no_walk}
use Rattle.slot_map.proofs.topology.elements.skip.Goals as goal

pub returns-in_err-walk : goal.returns-in_err-walk
returns-in_err-walk c v rest begins = absurd (no_walk c.args.depth c.args.bytes.now rest v begins c.in_err-walk.ensures.value)

pub returns : goal.returns
returns c v rest begins =
    let w = c.in_ok-walk in
    ap Some (take_rest c.args.bytes.now w.walk.len ∙ walked c.args.depth c.args.bytes.now rest v begins w.walk w.ensures.value)

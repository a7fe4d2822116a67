use Rattle.std.proofs.Common.{◌∙◌}
use Rattle.slot_map.proofs.Elements.{turn_ok, never_ok}
use Rattle.slot_map.proofs.Nodes.{few_fields, no_host, no_port, whole_node}
use Rattle.slot_map.proofs.topology.SlotReader.node.Goals as goal

pub returns-then-fields-lt2 : goal.returns-then-fields-lt2
returns-then-fields-lt2 c v rest begins =
    let stand = c.in_ok-fields.ensures v rest begins in
    few_fields c.args.self.answering.now 5 c.in_ok-fields.fields.count stand.come.front rest v c.if-fields-lt2.true (record { values = stand.values; is = stand.is; follow = stand.come.follow })

pub returns-in_err-ok : goal.returns-in_err-ok
returns-in_err-ok c v rest begins =
    let stand = c.in_ok-fields.ensures v rest begins in
    absurd (never_ok stand.come c.next.new.self c.in_ok-next.field-0 c.in_ok-next.ensures.steps c.in_err-ok.ensures.value)

pub returns-in_err-host : goal.returns-in_err-host
returns-in_err-host c v rest begins =
    let stand = c.in_ok-fields.ensures v rest begins in
    let first = turn_ok stand.come c.next.new.self c.in_ok-next.field-0 c.in_ok-next.ensures.steps c.in_ok-ok.field-0 c.in_ok-ok.ensures.value in
    c.from_residual-in_err-host.ensures
    ∙ no_host c.args.self.answering.now v stand.values stand.is first.first first.others first.is (c.in_err-host.ensures first.first first.rest first.here)

pub returns-in_err-ok-2 : goal.returns-in_err-ok-2
returns-in_err-ok-2 c v rest begins =
    let stand = c.in_ok-fields.ensures v rest begins in
    let first = turn_ok stand.come c.next.new.self c.in_ok-next.field-0 c.in_ok-next.ensures.steps c.in_ok-ok.field-0 c.in_ok-ok.ensures.value in
    absurd (never_ok first.come c.next-2.new.self c.in_ok-next-2.field-0 c.in_ok-next-2.ensures.steps c.in_err-ok-2.ensures.value)

pub returns-in_err-port : goal.returns-in_err-port
returns-in_err-port c v rest begins =
    let stand = c.in_ok-fields.ensures v rest begins in
    let first = turn_ok stand.come c.next.new.self c.in_ok-next.field-0 c.in_ok-next.ensures.steps c.in_ok-ok.field-0 c.in_ok-ok.ensures.value in
    let second = turn_ok first.come c.next-2.new.self c.in_ok-next-2.field-0 c.in_ok-next-2.ensures.steps c.in_ok-ok-2.field-0 c.in_ok-ok-2.ensures.value in
    c.from_residual-in_err-port.ensures
    ∙ no_port c.args.self.answering.now v stand.values stand.is first.first first.others first.is second.first second.others second.is c.in_ok-host.host.now
    (c.in_ok-host.ensures first.first first.rest first.here) (c.in_err-port.ensures second.first second.rest second.here)

pub returns : goal.returns
returns c v rest begins =
    let stand = c.in_ok-fields.ensures v rest begins in
    let first = turn_ok stand.come c.next.new.self c.in_ok-next.field-0 c.in_ok-next.ensures.steps c.in_ok-ok.field-0 c.in_ok-ok.ensures.value in
    let second = turn_ok first.come c.next-2.new.self c.in_ok-next-2.field-0 c.in_ok-next-2.ensures.steps c.in_ok-ok-2.field-0 c.in_ok-ok-2.ensures.value in
    c.new.ensures.made
    ∙ whole_node c.args.self.answering.now v stand.values stand.is first.first first.others first.is second.first second.others second.is c.in_ok-host.host.now c.in_ok-port.port
    (c.in_ok-host.ensures first.first first.rest first.here) (c.in_ok-port.ensures second.first second.rest second.here)

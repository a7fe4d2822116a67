use Rattle.std.proofs.Common.{take, refl}
use Rattle.std.specs.Option.{option_map}
use Rattle.node.specs.Address.{name_of}
use Rattle.node.proofs.Named.{parsed}
use Rattle.node.proofs.Splits.{right_answer}
use Rattle.node.proofs.address.NodeAddress.parse.Goals as goal

pub returns : goal.returns
returns c =
    let text = c.args.text.now in
    let split = c.in_ok-host.field-0 in
    let told = c.in_ok-host.ensures in
    let e = parsed text (take split.host text) split c.new.result refl told.answer told.value c.new.ensures.form c.new.ensures.value in
    record { value = e; answer = right_answer text (option_map name_of c.new.result) e }

use Rattle.std.proofs.Common.{◌≡◌, true, false, ◌&&◌, leb, Some, None, rules}
use Rattle.std.proofs.lemmas.List.{take_rest}
use Rattle.node.specs.Named.{parted}
use Rattle.node.proofs.Splits.{right_answer, unfit, by_port}
use Rattle.node.proofs.split.split_node_address.Goals as goal

pub returns-then-not-contains : goal.returns-then-not-contains
returns-then-not-contains c =
    let text = c.args.text.now in
    let n = c.plain_len-host.result in
    let long : (leb 1 n && leb n 64) ≡ false = search rules in
    let e = unfit text n c.plain_len-host.ensures.value long in
    record { within = tt; value = e; answer = right_answer text None e }

pub returns-in_err-port : goal.returns-in_err-port
returns-in_err-port c =
    let text = c.args.text.now in
    let n = c.plain_len-host.result in
    let fit : (leb 1 n && leb n 64) ≡ true = search rules in
    let e = by_port text n c.plain_len-host.ensures.value fit None (rw take_rest at c.in_err-port.ensures) in
    simp c.from_residual.ensures (record { within = tt; value = e; answer = right_answer text None e })

pub returns : goal.returns
returns c =
    let text = c.args.text.now in
    let n = c.plain_len-host.result in
    let p = c.in_ok-port.port in
    let fit : (leb 1 n && leb n 64) ≡ true = search rules in
    let e = by_port text n c.plain_len-host.ensures.value fit (Some p) (rw take_rest at c.in_ok-port.ensures) in
    record { within = c.plain_len-host.ensures.within; value = e; answer = right_answer text (Some (parted text (record { host = n; port = p }))) e }

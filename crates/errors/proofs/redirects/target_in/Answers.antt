use Rattle.std.proofs.Common.{◌≡◌, length, Some, subst, ap, ◌∙◌, arith}
use Rattle.resp.specs.Told.{Inside}
use Rattle.errors.specs.Redirection.{told, node as node_of}
use Rattle.errors.proofs.Nodes.{inner_part}
use Rattle.errors.proofs.redirects.target_in.Goals as goal

pub returns-clause-value : goal.returns-clause-value
returns-clause-value c =
    let text = c.args.text.now in
    let target = c.in_ok-target.target in
    let found = c.in_ok-target.ensures in
    let inside = subst (λ l. Inside (length l) target.host) c.text.ensures found.within in
    ap (λ h. Some (record { host = h; port = target.port })) (c.moved.ensures.text text (omega arith) ∙ inner_part text c.args.detail target.host inside)
    ∙ subst (λ l. told l (Some target) ≡ node_of l) c.text.ensures found.value

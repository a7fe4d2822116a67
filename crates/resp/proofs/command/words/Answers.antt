use Rattle.std.proofs.Common.{drop, refl, subst, arith}
use Rattle.std.proofs.lemmas.List.{take_rest}
use Rattle.resp.specs.Told.{Lies}
use Rattle.resp.proofs.Commands.{told_none, sofar_begins, stops_at_none, stops_at_other, word_more, refused_more, refused_many, refused_empty, granted}
use Rattle.resp.proofs.command.words.Goals as goal
use Rattle.resp.proofs.command.words.Goals.{then-not-is_empty-via-then-not-is_empty, then-not-is_empty-via-else-not-is_empty+then-count-gt-MOST, then-not-is_empty-via-else-not-is_empty+else-count-gt-MOST+then-first}

pub loop-word-init : goal.loop-word-init
loop-word-init c =
    let bs = c.args.bytes.now in
    let t = c.in_ok-token.token in
    rw take_rest (sofar_begins bs (drop t.len bs) t c.in-Array.count c.in_ok-token.ensures.value c.in-Array.is refl)

pub returns-in_err-word : goal.returns-in_err-word
returns-in_err-word c =
    rw c.from_residual-in_err-word.ensures
    (told_none c.args.bytes.now _ (stops_at_none _ _ _ _ _ _ c.loop-word-test.true c.loop-word.invariant c.in_err-word.ensures.value))

pub returns-in_default-head : goal.returns-in_default-head
returns-in_default-head c =
    told_none c.args.bytes.now _
    (stops_at_other _ _ _ _ _ _ c.loop-word-test.true c.loop-word.invariant c.in_ok-word.word c.in_ok-word.ensures.value c.in_default-head.not-Bulk)

pub loop-word-preserved : goal.loop-word-preserved
loop-word-preserved c =
    let found = c.in_ok-word.ensures in
    let lies = subst (Lies _) c.in-Bulk.is found.within.1 in
    rw c.or-first.ensures
    (word_more _ _ _ _ _ _ c.loop-word-test.true c.loop-word.invariant c.in_ok-word.word found.value c.in-Bulk.place c.in-Bulk.is lies _ (take_rest c.loop-word.rest.now c.in_ok-word.word.len))

pub returns-then-not-is_empty : goal.returns-then-not-is_empty
returns-then-not-is_empty c =
    let over = c.loop-word-test.false in
    let same = c.loop-word.auto._word-end in
    let so_far = c.loop-word.invariant in
    told_none c.args.bytes.now _
    (elim c.then-not-is_empty.branch [
      | then-not-is_empty-via-then-not-is_empty w ↦ refused_more _ _ _ _ _ _ over same so_far w.if-not-is_empty.ensures
      | then-not-is_empty-via-else-not-is_empty+then-count-gt-MOST w ↦ refused_many _ _ _ _ _ _ over same so_far w.if-count-gt-MOST.true
      | then-not-is_empty-via-else-not-is_empty+else-count-gt-MOST+then-first w ↦ refused_empty _ _ _ _ _ _ over same so_far _ c.in_ok-first.was w.if-first.true
    ])

pub returns : goal.returns
returns c =
    granted _ _ _ _ _ _ c.loop-word-test.false c.loop-word.auto._word-end c.loop-word.invariant _ c.in_ok-first.was _ refl (c.moved.ensures.text _ (omega arith)) c.if-not-is_empty.ensures c.if-count-gt-MOST.false c.if-first.false

use Rattle.std.proofs.Common.{◌≡◌, ◌≢◌, ℕ, List, [], ◌++◌, sym, refl, ap, ◌∙◌, subst, append-nil}
use Rattle.report.specs.Ranges.{range_lines, table_lines, entry_ranges}
use Rattle.report.specs.Shown.{Added}
use Rattle.report.proofs.ranges.entry_ranges.Goals as goal
use Rattle.tape.specs.declared.entry.Kind.{Kind}
use Rattle.tape.specs.declared.entry.Kind.TheVariants.{Answer, Dropped, Denied, Other}

none : (k : Kind) (bs : List ℕ) → k ≢ Answer → entry_ranges k bs ≡ []
unfolding entry_ranges
none Answer bs other = absurd (other refl)
none Dropped bs other = refl
none Denied bs other = refl
none Other bs other = refl

unchanged : (out text : List ℕ) → text ≡ [] → out ≡ out ++ text
unchanged out text e = sym (append-nil out) ∙ ap (λ l. out ++ l) (sym e)

pub returns-in_default-clause-added : goal.returns-in_default-clause-added
returns-in_default-clause-added c = unchanged _ _ (none c.args.kind c.args.bytes.now c.in_default.not-Answer)

pub returns-in_default-parse_slots-clause-added : goal.returns-in_default-parse_slots-clause-added
unfolding entry_ranges
returns-in_default-parse_slots-clause-added c =
    unchanged _ _ (ap (λ k. entry_ranges k c.args.bytes.now) c.in-Answer.is ∙ ap table_lines (sym c.in_default-parse_slots.ensures))

pub returns-else-is_err-clause-added : goal.returns-else-is_err-clause-added
unfolding entry_ranges
returns-else-is_err-clause-added c =
    let lines = ap range_lines c.ranges-2.ensures ∙ ap table_lines c.in-Ok.ensures ∙ ap (λ k. entry_ranges k c.args.bytes.now) (sym c.in-Answer.is) in
    subst (λ l. Added l c.args.out.now.items c.add_lines-added.new.out.items c.add_lines-added.result) lines c.add_lines-added.ensures.added

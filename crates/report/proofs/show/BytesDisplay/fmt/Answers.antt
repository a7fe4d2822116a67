use Rattle.std.proofs.Common.{List, ℕ, ◌++◌, sym, ap, ◌∙◌, rules, append_assoc}
use Rattle.std.proofs.lemmas.Grind.{put_two}
use Rattle.std.proofs.lemmas.List.Concat.{flat_map-append}
use Rattle.std.specs.Slice.Iter.{chunks_rest}
use Rattle.report.specs.Shown.{byte_shown, all_shown}
use Rattle.report.proofs.show.BytesDisplay.fmt.Goals as goal

pub loop-part-preserved : goal.loop-part-preserved
loop-part-preserved g c =
    let part = c.in-Some.part.now in
    let steps = c.in-Some.ensures.steps in
    record {
      goes_on = search rules;
      ends = tt;
      size = steps.0 ∙ c.loop-part.invariant.size;
      so_far = λ plain.
          let done = c.loop-part.invariant.so_far plain in (
            done.0 ++ part,
            put_two _ _ _ _ _ _ _ done.1 (search rules) (ap (λ (l : List ℕ). all_shown done.0 ++ l) c.show_part.ensures ∙ sym (flat_map-append byte_shown done.0 part)),
            append_assoc done.0 part (chunks_rest c.next.new.self) ∙ ap (λ (l : List ℕ). done.0 ++ l) (sym steps.1.0) ∙ done.2,
          );
    }

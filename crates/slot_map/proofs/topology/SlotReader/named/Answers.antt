use Rattle.std.proofs.Common.{◌≡◌, codes, length, refl, arith, rules}
use Rattle.std.proofs.lemmas.Grind.{common_steps}
use Rattle.std.proofs.lemmas.Slice.Eq.{text_from_reads}
use Rattle.slot_map.proofs.topology.SlotReader.named.Goals as goal
use Rattle.slot_map.proofs.topology.SlotReader.named.Goals.{then-text-lt1, else-text-lt1+else-text-lt2+then-text-lt3+in-58+in-58-text-3, else-text-lt1+else-text-lt2+else-text-lt3+else-text-lt7+then-text-lt8+in-48+in-46+in-48-text-6+in-46-text-7+in-48-text-8+in-46-text-9+in-48-text-10}

pub returns-in-empty : goal.returns-in-empty
returns-in-empty c =
    elim c.in-empty-1.branch [
      | then-text-lt1 w ↦ grind (arith, common_steps)
      | else-text-lt1+else-text-lt2+then-text-lt3+in-58+in-58-text-3 w ↦ grind (arith, common_steps)
      | else-text-lt1+else-text-lt2+else-text-lt3+else-text-lt7+then-text-lt8+in-48+in-46+in-48-text-6+in-46-text-7+in-48-text-8+in-46-text-9+in-48-text-10 w ↦
          let as_long : length c.args.text.now ≡ 7 = grind (arith, common_steps) in
          let is : c.args.text.now ≡ codes "0.0.0.0" = text_from_reads _ _ as_long (search rules) in
          rw is refl
    ]

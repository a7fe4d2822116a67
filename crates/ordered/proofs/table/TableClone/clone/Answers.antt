use Rattle.std.proofs.Common.{refl}
use Rattle.ordered.proofs.Tables.{same_table}
use Rattle.ordered.proofs.table.TableClone.clone.Goals as goal

pub returns : goal.returns
returns g c = record { cases = same_table _ _ refl refl }

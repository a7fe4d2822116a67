use Rattle.std.proofs.Common.{◌≡◌, ◌-◌, ◌≤◌, length, drop}
use Rattle.resp.specs.Reading.{several, value}
use Rattle.resp.specs.Told.{seen, text_at, Errs}
use Rattle.resp.proofs.Walks.{all_seen, joined}
use Rattle.resp.proofs.value.+walk.Given as goal

abbrev pub decreases-walk : goal.decreases-walk
decreases-walk l = l.depth

-- what the elements left come to from here, with the error found so far, is what the whole array comes to
abbrev pub invariant-loop-i : goal.invariant-loop-i
invariant-loop-i l =
    (l.len ≤ length l.bytes) × Errs (length l.bytes) l.error
    × (joined (text_at l.bytes l.error) (all_seen (several (value l.nested) (l.count - l._i) (drop l.len l.bytes))) ≡ seen (value l.depth l.bytes))

-- Bytes written over the front of 64 zeros.
use Rattle.std.proofs.Common.{◌≡◌, ℕ, ◌≤◌, true, List, ◌++◌, length, drop, replicate, ap, ◌∙◌}
use Rattle.std.proofs.lemmas.List.{drop-replicate}
use Rattle.node.specs.Padded.{padded, is_padded}

pub written_padded : (bytes front : List ℕ) → front ≡ bytes → length bytes ≤ 64 → padded (front ++ drop (length bytes) (replicate 64 0)) (length bytes) ≡ true
written_padded bytes front same =
    is_padded bytes _ (ap (λ f. f ++ drop (length bytes) (replicate 64 0)) same ∙ ap (λ zs. bytes ++ zs) (drop-replicate (length bytes) 64 0))

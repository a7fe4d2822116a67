-- A key of bytes is its bytes, and nothing more; it ranks as they do.
use Rattle.std.specs.Prelude.{◌≡◌, ℕ, ◌-◌, ◌≤◌, Bool, true, ◌==◌, List, ◌++◌, length, take, replicate, refl}
use Rattle.std.specs.declared.cmp.Ordering.TheVariants.{Less, Equal, Greater}
use Rattle.std.specs.declared.cmp.Ordering.{Ordering}
use Rattle.std.proofs.Math.Bool.{Bool-set}
use mathlib.Core.HLevel.{is_prop→PathP}
use Rattle.std.proofs.Common.{sym, ap, ◌∙◌}
use Rattle.std.specs.Cmp.Lexicographic.{slice_cmp}
use Rattle.std.specs.Ordering.{MatchOrdering, nat_cmp, on}
use lib.Pointwise.{pointwise}
use Rattle.node.specs.Bytes.{Before, lex_ranks}
use Rattle.node.specs.Padded.{padded, padded_parts, padded_front, is_padded}
use Rattle.node.specs.declared.byte_key.ByteKey.{ByteKey}

abbrev pub bytes_of : ByteKey → List ℕ
bytes_of k = take k.len k.bytes

abbrev pub formed_key : (bytes : List ℕ) → length bytes ≤ 64 → ByteKey
formed_key bytes short = record {
  bytes = bytes ++ replicate (64 - length bytes) 0;
  len = length bytes;
  formed = is_padded bytes (bytes ++ replicate (64 - length bytes) 0) refl short;
}

pub formed_bytes : (bytes : List ℕ) (short : length bytes ≤ 64) → bytes_of (formed_key bytes short) ≡ bytes
formed_bytes bytes short = padded_front bytes (bytes ++ replicate (64 - length bytes) 0) refl

-- what `eq` answers
abbrev pub byte_key_same : ByteKey → ByteKey → Bool
byte_key_same = on bytes_of (pointwise ◌==◌)

-- what `cmp` answers
abbrev pub byte_key_rank : ByteKey → ByteKey → Ordering
byte_key_rank = on bytes_of (slice_cmp nat_cmp)

pub same_key : (a b : ByteKey) → bytes_of a ≡ bytes_of b → a ≡ b
same_key a b same =
    let x = padded_parts a.bytes a.len a.formed in
    let y = padded_parts b.bytes b.len b.formed in
    let len : a.len ≡ b.len = x.long ∙ ap length same ∙ sym y.long in
    let bytes : a.bytes ≡ b.bytes = x.is ∙ (λ i. same i ++ replicate (64 - len i) 0) ∙ sym y.is in
    λ i. record {
      bytes = bytes i;
      len = len i;
      formed = is_prop→PathP (λ k. padded (bytes k) (len k) ≡ true) (λ k. Bool-set _ _) a.formed b.formed i;
    }

abbrev pub KeyBefore : ByteKey → ByteKey → Type 0
KeyBefore a b = Before (bytes_of a) (bytes_of b)

as_keys : (a b : ByteKey) (r : Ordering) → MatchOrdering r (KeyBefore a b) (bytes_of a ≡ bytes_of b) (KeyBefore b a) → MatchOrdering r (KeyBefore a b) (a ≡ b) (KeyBefore b a)
as_keys a b Less h = h
as_keys a b Equal h = same_key a b h
as_keys a b Greater h = h

pub byte_key_ranks : (a b : ByteKey) → MatchOrdering (byte_key_rank a b) (KeyBefore a b) (a ≡ b) (KeyBefore b a)
byte_key_ranks a b = as_keys a b (byte_key_rank a b) (lex_ranks (bytes_of a) (bytes_of b))

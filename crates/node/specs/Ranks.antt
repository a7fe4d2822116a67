-- The order of addresses is total: `ascending` by its laws, and `addresses` as std's maps ask for it.
use Rattle.std.specs.Prelude.{◌≡◌, ◌<◌, ◌⊎◌, Bool, ◌==◌}
use Rattle.std.specs.declared.cmp.Ordering.TheVariants.{Less, Equal, Greater}
use Rattle.std.specs.declared.cmp.Ordering.{Ordering}
use Rattle.std.proofs.Common.{inl, inr, sym, subst, ◌∙◌, arith}
use Rattle.std.specs.Cmp.{IsTotalOrder, strict, ranks}
use Rattle.std.specs.Cmp.Lexicographic.{slice_cmp}
use Rattle.std.specs.Ordering.{MatchOrdering, ordering_then, nat_cmp, on, then_cmp, eq_of_both}
use lib.Pointwise.{pointwise}
use Rattle.node.specs.Address.{host_of}
use Rattle.node.specs.Bytes.{Before, before_irrefl, before_chain, lex_ranks}
use Rattle.node.specs.Order.{Below, StrictTotal}
use Rattle.node.specs.Same.{same_address}
use Rattle.node.specs.declared.address.NodeAddress.{NodeAddress}

-- the hosts first, and then the ports
pub then_ranks : (a b : NodeAddress) (r s : Ordering) → MatchOrdering r (Before (host_of a) (host_of b)) (host_of a ≡ host_of b) (Before (host_of b) (host_of a)) → MatchOrdering s (a.port < b.port) (a.port ≡ b.port) (b.port < a.port) → MatchOrdering (ordering_then r s) (Below a b) (a ≡ b) (Below b a)
then_ranks a b Less s h k = inl h
then_ranks a b Equal Less h k = inr (h, k)
then_ranks a b Equal Equal h k = same_address a b h k
then_ranks a b Equal Greater h k = inr (sym h, k)
then_ranks a b Greater s h k = inl h

pub below_irrefl : (a : NodeAddress) → Below a a → ⊥
below_irrefl a (inl h) = before_irrefl (host_of a) h
below_irrefl a (inr h) = omega (arith, h.1)

pub below_chain : (a b c : NodeAddress) → Below a b → Below b c → Below a c
below_chain a b c (inl h) (inl k) = inl (before_chain (host_of a) (host_of b) (host_of c) h k)
below_chain a b c (inl h) (inr k) = inl (subst (Before (host_of a)) k.0 h)
below_chain a b c (inr h) (inl k) = inl (subst (λ l. Before l (host_of c)) (sym h.0) k)
below_chain a b c (inr h) (inr k) = inr (h.0 ∙ k.0, omega (arith, h.1, k.1))

-- what `cmp` answers: the hosts are compared byte by byte, and then the ports
abbrev pub address_rank : NodeAddress → NodeAddress → Ordering
address_rank = then_cmp (on host_of (slice_cmp nat_cmp)) (on (λ a. a.port) nat_cmp)

-- what `eq` answers
abbrev pub address_same : NodeAddress → NodeAddress → Bool
address_same = eq_of_both (on host_of (pointwise ◌==◌)) (on (λ a. a.port) ◌==◌)

pub address_ranks : (a b : NodeAddress) → MatchOrdering (address_rank a b) (Below a b) (a ≡ b) (Below b a)
address_ranks a b = then_ranks a b (slice_cmp nat_cmp (host_of a) (host_of b)) (nat_cmp a.port b.port) (lex_ranks (host_of a) (host_of b)) (ranks a.port b.port)

abbrev pub addresses : IsTotalOrder address_rank
addresses = strict Below below_irrefl below_chain address_rank address_ranks

one_way : (P Q R : Type 0) (r : Ordering) → MatchOrdering r P Q R → P ⊎ (Q ⊎ R)
one_way P Q R Less h = inl h
one_way P Q R Equal h = inr (inl h)
one_way P Q R Greater h = inr (inr h)

pub ascending : StrictTotal Below
ascending = record {
  irreflexive = below_irrefl;
  asymmetric = λ a b h k. below_irrefl a (below_chain a b a h k);
  transitive = below_chain;
  trichotomy = λ a b. one_way (Below a b) (a ≡ b) (Below b a) (address_rank a b) (address_ranks a b);
}

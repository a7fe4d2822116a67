-- The orders of the keys are total.
use Rattle.std.specs.Prelude.{◌≡◌, ℕ, ◌<◌, refl}
use Rattle.std.specs.declared.cmp.Ordering.TheVariants.{Less, Equal, Greater}
use Rattle.std.specs.declared.cmp.Ordering.{Ordering}
use Rattle.std.proofs.Common.{sym, ap, subst}
use Rattle.std.proofs.lemmas.Cmp.{nat_cmp_total, nat_list_cmp_total, on_total}
use Rattle.std.proofs.lemmas.Bool.{false≢true}
use Rattle.std.specs.Cmp.{IsTotalOrder as Lawful, ranks}
use Rattle.std.specs.Ordering.{MatchOrdering, is_lt, ordering_reverse, nat_cmp}
use Rattle.node.specs.ByteKeys.{bytes_of, byte_key_rank, byte_key_ranks, KeyBefore}
use Rattle.node.specs.Order.{Below}
use Rattle.node.specs.Ranks.{address_rank, address_ranks, addresses}
use Rattle.ordered.specs.Total.{Total}

unturned : (o : Ordering) → o ≡ ordering_reverse o → o ≡ Equal
unturned Less e = absurd (false≢true (ap is_lt (sym e)))
unturned Equal e = refl
unturned Greater e = absurd (false≢true (ap is_lt e))

-- a lawful order, as std says it, that ranks by L
pub total_by : {K : Type 0} {R : K → K → Ordering} (lawful : Lawful R) (L : K → K → Type 0) → ((x y : K) → MatchOrdering (R x y) (L x y) (x ≡ y) (L y x)) → Total R
total_by {R = R} lawful L ranks = record {
  same = λ x y e. subst (λ o. MatchOrdering o (L x y) (x ≡ y) (L y x)) e (ranks x y);
  itself = λ x. unturned (R x x) (lawful.antisymm x x);
  turned = lawful.antisymm;
  chained = lawful.trans;
}

-- such an order is lawful
pub lawful : {K : Type 0} {R : K → K → Ordering} → Total R → Lawful R
lawful {R = R} total = record {
  antisymm = total.turned;
  trans = total.chained;
  congr = λ x y z e. ap (λ w. R w z) (total.same x y e);
}

pub addresses_total : Total address_rank
addresses_total = total_by addresses Below address_ranks

pub numbers_total : Total nat_cmp
numbers_total = total_by nat_cmp_total (λ (x y : ℕ). x < y) ranks

pub byte_keys_total : Total byte_key_rank
byte_keys_total = total_by (on_total bytes_of nat_list_cmp_total) KeyBefore byte_key_ranks

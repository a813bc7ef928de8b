-- The order of time differences is a total one, and says Equal where the derived == holds.
use Rattle.std.proofs.Common.{◌≡◌, ℕ, Bool, refl, ◌∙◌, subst, rules}
use Rattle.std.specs.Ordering.{is_eq, nat_cmp, ordering_then, on, flip_args, then_cmp, as_partial_cmp}
use Rattle.std.specs.Cmp.{IsTotalOrder, IsPartialOrder, po, nat_eq_equiv, unsigned_ties}
use Rattle.std.specs.Cmp.Rules.{comparing}
use Rattle.std.specs.declared.cmp.Ordering.{Ordering}
use Rattle.std.specs.declared.cmp.Ordering.TheVariants.{Less, Equal, Greater}
use Rattle.time.specs.Delta.{order}
use Rattle.time.specs.declared.TimeDelta.{TimeDelta}
use Rattle.time.specs.declared.TimeDelta.TheVariants.{NegativeInfinity, Negative, Positive, PositiveInfinity}
use Rattle.time.specs.contracts.TimeDeltaPartialEq.TheImpl as derived

-- ---- by the kind, then the longer of two negative ones first, then the shorter of two positive ones

kind : TimeDelta → ℕ
kind NegativeInfinity = 0
kind (Negative d) = 1
kind (Positive d) = 2
kind PositiveInfinity = 3

behind : TimeDelta → ℕ
behind NegativeInfinity = 0
behind (Negative d) = d.nanos
behind (Positive d) = 0
behind PositiveInfinity = 0

ahead : TimeDelta → ℕ
ahead NegativeInfinity = 0
ahead (Negative d) = 0
ahead (Positive d) = d.nanos
ahead PositiveInfinity = 0

by_kind : TimeDelta → TimeDelta → Ordering
by_kind = then_cmp (on kind nat_cmp) (then_cmp (flip_args (on behind nat_cmp)) (on ahead nat_cmp))

then_equal : (o : Ordering) → ordering_then o Equal ≡ o
then_equal Less = refl
then_equal Equal = refl
then_equal Greater = refl

same_order : (a b : TimeDelta) → by_kind a b ≡ order a b
unfolding by_kind kind behind ahead order
same_order NegativeInfinity NegativeInfinity = refl
same_order NegativeInfinity (Negative e) = refl
same_order NegativeInfinity (Positive e) = refl
same_order NegativeInfinity PositiveInfinity = refl
same_order (Negative d) NegativeInfinity = refl
same_order (Negative d) (Negative e) = then_equal (nat_cmp e.nanos d.nanos)
same_order (Negative d) (Positive e) = refl
same_order (Negative d) PositiveInfinity = refl
same_order (Positive d) NegativeInfinity = refl
same_order (Positive d) (Negative e) = refl
same_order (Positive d) (Positive e) = refl
same_order (Positive d) PositiveInfinity = refl
same_order PositiveInfinity NegativeInfinity = refl
same_order PositiveInfinity (Negative e) = refl
same_order PositiveInfinity (Positive e) = refl
same_order PositiveInfinity PositiveInfinity = refl

by_kind_total : IsTotalOrder by_kind
unfolding by_kind
by_kind_total = search (comparing, rules)

pub deltas_total : IsTotalOrder order
deltas_total = subst IsTotalOrder (λ i a b. same_order a b i) by_kind_total

abbrev pub equal : TimeDelta → TimeDelta → Bool
equal = (derived.ghosts).eq

pub delta_ties : (a b : TimeDelta) → equal a b ≡ is_eq (order a b)
unfolding order
delta_ties NegativeInfinity NegativeInfinity = refl
delta_ties NegativeInfinity (Negative e) = refl
delta_ties NegativeInfinity (Positive e) = refl
delta_ties NegativeInfinity PositiveInfinity = refl
delta_ties (Negative d) NegativeInfinity = refl
delta_ties (Negative d) (Negative e) = (nat_eq_equiv).symm d.nanos e.nanos ∙ unsigned_ties e.nanos d.nanos
delta_ties (Negative d) (Positive e) = refl
delta_ties (Negative d) PositiveInfinity = refl
delta_ties (Positive d) NegativeInfinity = refl
delta_ties (Positive d) (Negative e) = refl
delta_ties (Positive d) (Positive e) = unsigned_ties d.nanos e.nanos
delta_ties (Positive d) PositiveInfinity = refl
delta_ties PositiveInfinity NegativeInfinity = refl
delta_ties PositiveInfinity (Negative e) = refl
delta_ties PositiveInfinity (Positive e) = refl
delta_ties PositiveInfinity PositiveInfinity = refl

pub deltas_po : IsPartialOrder equal (as_partial_cmp order)
deltas_po = po deltas_total delta_ties

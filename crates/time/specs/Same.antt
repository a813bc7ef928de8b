-- Rust derives PartialEq: two values are equal where they are the same. That is where the order says Equal, and there alone.
-- Assumes nothing.
use Rattle.std.proofs.Common.{◌≡◌, ℕ, refl, sym, ap, ◌∙◌, eqb-true}
use Rattle.std.specs.Cmp.{nat_cmp_total, tied_itself, unsigned_ties}
use Rattle.std.specs.Ordering.{is_eq, nat_cmp}
use Rattle.std.specs.declared.cmp.Ordering.TheVariants.{Equal}
use Rattle.duration.specs.Nanos.{ns}
use Rattle.time.specs.Delta as Delta
use Rattle.time.specs.Laws.{deltas_total}
use Rattle.time.specs.Time as Time
use Rattle.time.specs.declared.TimeDelta.{TimeDelta}
use Rattle.time.specs.declared.TimeDelta.TheVariants.{NegativeInfinity, Negative, Positive, PositiveInfinity}
use Rattle.time.specs.declared.Timestamp.{Timestamp}
use Rattle.time.specs.declared.Timestamp.TheVariants.{DistantPast, Exact, DistantFuture}

equal_numbers : (m n : ℕ) → nat_cmp m n ≡ Equal → m ≡ n
equal_numbers m n h = eqb-true m n (unsigned_ties m n ∙ ap is_eq h)

pub time_equals_itself : (a : Timestamp) → Time.order a a ≡ Equal
unfolding Time.order
time_equals_itself DistantPast = refl
time_equals_itself (Exact i) = tied_itself nat_cmp_total i
time_equals_itself DistantFuture = refl

pub equal_times : (a b : Timestamp) → Time.order a b ≡ Equal → a ≡ b
unfolding Time.order
equal_times DistantPast DistantPast h = refl
equal_times DistantPast (Exact j) h = cc
equal_times DistantPast DistantFuture h = cc
equal_times (Exact i) DistantPast h = cc
equal_times (Exact i) (Exact j) h = ap Exact (equal_numbers i j h)
equal_times (Exact i) DistantFuture h = cc
equal_times DistantFuture DistantPast h = cc
equal_times DistantFuture (Exact j) h = cc
equal_times DistantFuture DistantFuture h = refl

pub delta_equals_itself : (a : TimeDelta) → Delta.order a a ≡ Equal
delta_equals_itself a = tied_itself deltas_total a

pub equal_deltas : (a b : TimeDelta) → Delta.order a b ≡ Equal → a ≡ b
unfolding Delta.order
equal_deltas NegativeInfinity NegativeInfinity h = refl
equal_deltas NegativeInfinity (Negative e) h = cc
equal_deltas NegativeInfinity (Positive e) h = cc
equal_deltas NegativeInfinity PositiveInfinity h = cc
equal_deltas (Negative d) NegativeInfinity h = cc
equal_deltas (Negative d) (Negative e) h = ap (λ n. Negative (ns n)) (sym (equal_numbers e.nanos d.nanos h))
equal_deltas (Negative d) (Positive e) h = cc
equal_deltas (Negative d) PositiveInfinity h = cc
equal_deltas (Positive d) NegativeInfinity h = cc
equal_deltas (Positive d) (Negative e) h = cc
equal_deltas (Positive d) (Positive e) h = ap (λ n. Positive (ns n)) (equal_numbers d.nanos e.nanos h)
equal_deltas (Positive d) PositiveInfinity h = cc
equal_deltas PositiveInfinity NegativeInfinity h = cc
equal_deltas PositiveInfinity (Negative e) h = cc
equal_deltas PositiveInfinity (Positive e) h = cc
equal_deltas PositiveInfinity PositiveInfinity h = refl

-- Times: what `Timestamp` of time.rs answers. Definitions only.
use Rattle.std.specs.Prelude.{◌+◌, Bool, true, false, Result, Ok}
use Rattle.std.specs.Ordering.{nat_cmp}
use Rattle.std.specs.declared.cmp.Ordering.{Ordering}
use Rattle.std.specs.declared.cmp.Ordering.TheVariants.{Less, Equal, Greater}
use Rattle.refusal.specs.Outcome.{and_then}
use Rattle.refusal.specs.declared.Refusal.{Refusal}
use Rattle.duration.specs.Nanos as Nanos
use Rattle.duration.specs.declared.Duration.{Duration}
use Rattle.time.specs.Delta.{difference, negated}
use Rattle.time.specs.declared.TimeDelta.{TimeDelta}
use Rattle.time.specs.declared.TimeDelta.TheVariants.{NegativeInfinity, Negative, Positive, PositiveInfinity}
use Rattle.time.specs.declared.Timestamp.{Timestamp}
use Rattle.time.specs.declared.Timestamp.TheVariants.{DistantPast, Exact, DistantFuture}

-- ns as an instant
abbrev pub exact : Result Duration Refusal → Result Timestamp Refusal
exact d = and_then d (λ (i : Duration). Ok (Exact i.nanos))

-- is_exact
abbrev pub is_exact : Timestamp → Bool
is_exact DistantPast = false
is_exact (Exact i) = true
is_exact DistantFuture = false

-- ---- arithmetic

-- DistantFuture and PositiveInfinity give DistantFuture with anything, then DistantPast and NegativeInfinity DistantPast (Add<TimeDelta>)
unfoldable pub plus : Timestamp → TimeDelta → Result Timestamp Refusal
plus DistantPast NegativeInfinity = Ok DistantPast
plus DistantPast (Negative d) = Ok DistantPast
plus DistantPast (Positive d) = Ok DistantPast
plus DistantPast PositiveInfinity = Ok DistantFuture
plus (Exact i) NegativeInfinity = Ok DistantPast
plus (Exact i) (Negative d) = exact (Nanos.minus i d.nanos)
plus (Exact i) (Positive d) = exact (Nanos.fitted (i + d.nanos))
plus (Exact i) PositiveInfinity = Ok DistantFuture
plus DistantFuture d = Ok DistantFuture

-- the difference is added negated: so goes each line of Rust's table (Sub<TimeDelta>)
unfoldable pub minus : Timestamp → TimeDelta → Result Timestamp Refusal
minus t d = plus t (negated d)

-- the difference of two times: each of the two infinite ones minus itself is PositiveInfinity (Sub<Timestamp>)
unfoldable pub since : Timestamp → Timestamp → TimeDelta
since DistantPast DistantPast = PositiveInfinity
since DistantPast (Exact b) = NegativeInfinity
since DistantPast DistantFuture = NegativeInfinity
since (Exact a) DistantPast = PositiveInfinity
since (Exact a) (Exact b) = difference a b
since (Exact a) DistantFuture = NegativeInfinity
since DistantFuture b = PositiveInfinity

-- ---- order

-- DistantPast is below every instant, DistantFuture above (Ord, and PartialEq by Same.antt)
unfoldable pub order : Timestamp → Timestamp → Ordering
order DistantPast DistantPast = Equal
order DistantPast (Exact b) = Less
order DistantPast DistantFuture = Less
order (Exact a) DistantPast = Greater
order (Exact a) (Exact b) = nat_cmp a b
order (Exact a) DistantFuture = Less
order DistantFuture DistantPast = Greater
order DistantFuture (Exact b) = Greater
order DistantFuture DistantFuture = Equal

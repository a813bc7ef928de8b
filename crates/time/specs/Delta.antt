-- Time differences: what `TimeDelta` of time.rs answers. Definitions only.
use Rattle.std.specs.Prelude.{ℕ, ◌+◌, ◌-◌, ◌*◌, true, false, if◌then◌else◌, ℤ, pos, int_le, nat_lt, unsigned_abs, Result, Ok}
use Rattle.std.specs.Prelude.{Float}
use Rattle.std.specs.Float.{inf}
use Rattle.std.specs.Float.Ieee.{neg}
use Rattle.std.specs.Ordering.{nat_cmp, is_lt}
use Rattle.std.specs.declared.cmp.Ordering.{Ordering}
use Rattle.std.specs.declared.cmp.Ordering.TheVariants.{Less, Equal, Greater}
use Rattle.refusal.specs.Outcome.{and_then}
use Rattle.refusal.specs.declared.Refusal.{Refusal}
use Rattle.duration.specs.Nanos as Nanos
use Rattle.duration.specs.Seconds.{seconds}
use Rattle.duration.specs.declared.Duration.{Duration}
use Rattle.bandwidth.specs.Size.{over_seconds}
use Rattle.bandwidth.specs.declared.DataSize.{DataSize}
use Rattle.bandwidth.specs.declared.Bitrate.{Bitrate}
use Rattle.time.specs.declared.TimeDelta.{TimeDelta}
use Rattle.time.specs.declared.TimeDelta.TheVariants.{NegativeInfinity, Negative, Positive, PositiveInfinity}

abbrev pub zero : TimeDelta
zero = Positive (Nanos.ns 0)

-- a duration as a difference forwards in time, and as one backwards
abbrev pub positive : Result Duration Refusal → Result TimeDelta Refusal
positive d = and_then d (λ span. Ok (Positive span))

abbrev pub negative : Result Duration Refusal → Result TimeDelta Refusal
negative d = and_then d (λ span. Ok (Negative span))

-- ---- from and to numbers

-- n units of so many ns, with the sign of n; refused where the span fits no u64 (from_secs, from_millis)
unfoldable pub units : ℤ → ℕ → Result TimeDelta Refusal
units n unit = let nanos = Nanos.fitted (unsigned_abs n * unit) in if int_le (pos 0) n then positive nanos else negative nanos

-- as_secs_f64
unfoldable pub in_seconds : TimeDelta → Float
in_seconds NegativeInfinity = inf true
in_seconds (Negative d) = neg (seconds d)
in_seconds (Positive d) = seconds d
in_seconds PositiveInfinity = inf false

-- ---- arithmetic

-- a - b ns: negative where a is below b, and positive zero where they are equal
unfoldable pub difference : ℕ → ℕ → TimeDelta
difference a b = if nat_lt a b then Negative (Nanos.ns (b - a)) else Positive (Nanos.ns (a - b))

-- PositiveInfinity with anything is PositiveInfinity, also with NegativeInfinity; two finite ones of one sign keep it (Add)
unfoldable pub plus : TimeDelta → TimeDelta → Result TimeDelta Refusal
plus NegativeInfinity NegativeInfinity = Ok NegativeInfinity
plus NegativeInfinity (Negative b) = Ok NegativeInfinity
plus NegativeInfinity (Positive b) = Ok NegativeInfinity
plus NegativeInfinity PositiveInfinity = Ok PositiveInfinity
plus (Negative a) NegativeInfinity = Ok NegativeInfinity
plus (Negative a) (Negative b) = negative (Nanos.fitted (a.nanos + b.nanos))
plus (Negative a) (Positive b) = Ok (difference b.nanos a.nanos)
plus (Negative a) PositiveInfinity = Ok PositiveInfinity
plus (Positive a) NegativeInfinity = Ok NegativeInfinity
plus (Positive a) (Negative b) = Ok (difference a.nanos b.nanos)
plus (Positive a) (Positive b) = positive (Nanos.fitted (a.nanos + b.nanos))
plus (Positive a) PositiveInfinity = Ok PositiveInfinity
plus PositiveInfinity b = Ok PositiveInfinity

-- the same span the other way in time
unfoldable pub negated : TimeDelta → TimeDelta
negated NegativeInfinity = PositiveInfinity
negated (Negative d) = Positive d
negated (Positive d) = Negative d
negated PositiveInfinity = NegativeInfinity

-- the first plus the second negated: so goes each line of Rust's table (Sub)
unfoldable pub minus : TimeDelta → TimeDelta → Result TimeDelta Refusal
minus a b = plus a (negated b)

-- a finite difference divided by the number 0 is refused, an infinite one stays as it is (Div<u32>)
unfoldable pub over : TimeDelta → ℕ → Result TimeDelta Refusal
over NegativeInfinity n = Ok NegativeInfinity
over (Negative d) n = negative (Nanos.over d.nanos n)
over (Positive d) n = positive (Nanos.over d.nanos n)
over PositiveInfinity n = Ok PositiveInfinity

-- size / time, as size / duration is (Div<TimeDelta> for DataSize)
unfoldable pub rate : DataSize → TimeDelta → Result Bitrate Refusal
rate s d = over_seconds s (in_seconds d)

-- ---- order

-- negative zero sorts below positive zero and is unequal to it (Ord, and PartialEq by Same.antt)
unfoldable pub order : TimeDelta → TimeDelta → Ordering
order NegativeInfinity NegativeInfinity = Equal
order NegativeInfinity (Negative b) = Less
order NegativeInfinity (Positive b) = Less
order NegativeInfinity PositiveInfinity = Less
order (Negative a) NegativeInfinity = Greater
order (Negative a) (Negative b) = nat_cmp b.nanos a.nanos
order (Negative a) (Positive b) = Less
order (Negative a) PositiveInfinity = Less
order (Positive a) NegativeInfinity = Greater
order (Positive a) (Negative b) = Greater
order (Positive a) (Positive b) = nat_cmp a.nanos b.nanos
order (Positive a) PositiveInfinity = Less
order PositiveInfinity NegativeInfinity = Greater
order PositiveInfinity (Negative b) = Greater
order PositiveInfinity (Positive b) = Greater
order PositiveInfinity PositiveInfinity = Equal

-- the second where they are equal (Ord::max)
abbrev pub larger : TimeDelta → TimeDelta → TimeDelta
larger a b = if is_lt (order b a) then a else b

-- Worked examples of the definitions in specs/, which antt computes. They test the definitions; no proof cites them.
use Rattle.std.specs.Prelude.{◌≡◌, ℕ, ◌+◌, ◌-◌, ◌^◌, List, [], ◌∷◌, map, pos, negsuc, Result, Ok, Err}
use Rattle.std.specs.Prelude.{refl}
use Rattle.std.specs.Float.Ieee.{add, div, eq, in_float, mul, neg, of_bits, of_int}
use Rattle.float.specs.Rounded.{bits}
use Rattle.std.specs.declared.cmp.Ordering.TheVariants.{Less, Equal, Greater}
use Rattle.refusal.specs.declared.Refusal.{Refusal}
use Rattle.refusal.specs.declared.Refusal.TheVariants.{Arithmetic}
use Rattle.duration.specs.Nanos as Nanos
use Rattle.duration.specs.Seconds.{seconds}
use Rattle.bandwidth.specs.Rate as Rate
use Rattle.bandwidth.specs.Size.{size, float}
use Rattle.time.specs.Delta as Delta
use Rattle.time.specs.Time as Time
use Rattle.time.specs.declared.TimeDelta.{TimeDelta}
use Rattle.time.specs.declared.TimeDelta.TheVariants.{NegativeInfinity, Negative, Positive, PositiveInfinity}
use Rattle.time.specs.declared.Timestamp.{Timestamp}
use Rattle.time.specs.declared.Timestamp.TheVariants.{DistantPast, Exact, DistantFuture}

abbrev back : ℕ → TimeDelta
back n = Negative (Nanos.ns n)

abbrev on : ℕ → TimeDelta
on n = Positive (Nanos.ns n)

-- one of each kind
abbrev kinds : List TimeDelta
kinds = NegativeInfinity ∷ back 2 ∷ on 2 ∷ PositiveInfinity ∷ []

abbrev times : List Timestamp
times = DistantPast ∷ Exact 5 ∷ DistantFuture ∷ []

abbrev taken : {A : Type 0} → A → Result A Refusal
taken x = Ok x

abbrev refused : {A : Type 0} → Result A Refusal
refused = Err Arithmetic

abbrev all : List TimeDelta → List (Result TimeDelta Refusal)
all = map taken

-- each kind minus each: the sixteen lines that Rust's Sub has for them
difference_table :
    map (Delta.minus NegativeInfinity) kinds ≡ all (PositiveInfinity ∷ NegativeInfinity ∷ NegativeInfinity ∷ NegativeInfinity ∷ [])
    × map (Delta.minus (back 5)) kinds ≡ all (PositiveInfinity ∷ back 3 ∷ back 7 ∷ NegativeInfinity ∷ [])
    × map (Delta.minus (on 5)) kinds ≡ all (PositiveInfinity ∷ on 7 ∷ on 3 ∷ NegativeInfinity ∷ [])
    × map (Delta.minus PositiveInfinity) kinds ≡ all (PositiveInfinity ∷ PositiveInfinity ∷ PositiveInfinity ∷ PositiveInfinity ∷ [])
unfolding Nanos.fitted Delta.difference Delta.minus Delta.negated Delta.plus
difference_table = (refl, refl, refl, refl)

-- each kind plus each: the sixteen lines of Rust's Add
sum_table :
    map (Delta.plus NegativeInfinity) kinds ≡ all (NegativeInfinity ∷ NegativeInfinity ∷ NegativeInfinity ∷ PositiveInfinity ∷ [])
    × map (Delta.plus (back 5)) kinds ≡ all (NegativeInfinity ∷ back 7 ∷ back 3 ∷ PositiveInfinity ∷ [])
    × map (Delta.plus (on 5)) kinds ≡ all (NegativeInfinity ∷ on 3 ∷ on 7 ∷ PositiveInfinity ∷ [])
    × map (Delta.plus PositiveInfinity) kinds ≡ all (PositiveInfinity ∷ PositiveInfinity ∷ PositiveInfinity ∷ PositiveInfinity ∷ [])
unfolding Nanos.fitted Delta.difference Delta.plus
sum_table = (refl, refl, refl, refl)

-- each kind added to a time of each kind
later_table :
    map (Time.plus DistantPast) kinds ≡ map taken (DistantPast ∷ DistantPast ∷ DistantPast ∷ DistantFuture ∷ [])
    × map (Time.plus (Exact 5)) kinds ≡ map taken (DistantPast ∷ Exact 3 ∷ Exact 7 ∷ DistantFuture ∷ [])
    × map (Time.plus DistantFuture) kinds ≡ map taken (DistantFuture ∷ DistantFuture ∷ DistantFuture ∷ DistantFuture ∷ [])
unfolding Nanos.fitted Nanos.minus Time.plus
later_table = (refl, refl, refl)

-- each kind taken from a time of each kind
earlier_table :
    map (Time.minus DistantPast) kinds ≡ map taken (DistantFuture ∷ DistantPast ∷ DistantPast ∷ DistantPast ∷ [])
    × map (Time.minus (Exact 5)) kinds ≡ map taken (DistantFuture ∷ Exact 7 ∷ Exact 3 ∷ DistantPast ∷ [])
    × map (Time.minus DistantFuture) kinds ≡ map taken (DistantFuture ∷ DistantFuture ∷ DistantFuture ∷ DistantFuture ∷ [])
unfolding Nanos.fitted Nanos.minus Delta.negated Time.minus Time.plus
earlier_table = (refl, refl, refl)

-- two negative zeros stay negative; of two signs the sum is positive zero
zero_examples :
    map (Delta.plus (back 0)) (back 0 ∷ on 0 ∷ []) ≡ all (back 0 ∷ Delta.zero ∷ [])
    × map (Delta.plus (on 2)) (back 2 ∷ back 5 ∷ []) ≡ all (Delta.zero ∷ back 3 ∷ [])
unfolding Nanos.fitted Delta.difference Delta.plus
zero_examples = (refl, refl)

-- a time of each kind minus each: the nine lines of Rust's Sub; of two instants the first may be earlier, the same or later
since_table :
    map (Time.since DistantPast) times ≡ PositiveInfinity ∷ NegativeInfinity ∷ NegativeInfinity ∷ []
    × map (Time.since (Exact 4)) times ≡ PositiveInfinity ∷ back 1 ∷ NegativeInfinity ∷ []
    × map (Time.since (Exact 5)) times ≡ PositiveInfinity ∷ Delta.zero ∷ NegativeInfinity ∷ []
    × map (Time.since (Exact 7)) times ≡ PositiveInfinity ∷ on 2 ∷ NegativeInfinity ∷ []
    × map (Time.since DistantFuture) times ≡ PositiveInfinity ∷ PositiveInfinity ∷ PositiveInfinity ∷ []
unfolding Delta.difference Time.since
since_table = (refl, refl, refl, refl, refl)

abbrev first : Timestamp
first = Exact 0

abbrev last : Timestamp
last = Exact (2 ^ 64 - 1)

-- the first instant and the last: what comes to either, and one past it, forwards and backwards
limit_examples :
    map (Time.plus last) (on 0 ∷ on 1 ∷ back (2 ^ 64 - 1) ∷ []) ≡ taken last ∷ refused ∷ taken first ∷ []
    × map (Time.plus first) (back 0 ∷ back 1 ∷ on (2 ^ 64 - 1) ∷ []) ≡ taken first ∷ refused ∷ taken last ∷ []
    × map (Time.minus last) (back 0 ∷ back 1 ∷ on (2 ^ 64 - 1) ∷ []) ≡ taken last ∷ refused ∷ taken first ∷ []
    × map (Time.minus first) (on 0 ∷ on 1 ∷ back (2 ^ 64 - 1) ∷ []) ≡ taken first ∷ refused ∷ taken last ∷ []
unfolding Nanos.fitted Nanos.minus Delta.negated Time.plus Time.minus
limit_examples = (refl, refl, refl, refl)

-- the longest span either way, and one past it
span_examples :
    map (Delta.plus (on (2 ^ 64 - 2))) (on 1 ∷ on 2 ∷ []) ≡ taken (on (2 ^ 64 - 1)) ∷ refused ∷ []
    × map (Delta.plus (back (2 ^ 64 - 2))) (back 1 ∷ back 2 ∷ []) ≡ taken (back (2 ^ 64 - 1)) ∷ refused ∷ []
    × map (Delta.minus (on (2 ^ 64 - 2))) (back 1 ∷ back 2 ∷ []) ≡ taken (on (2 ^ 64 - 1)) ∷ refused ∷ []
    × map (Delta.minus (back (2 ^ 64 - 2))) (on 1 ∷ on 2 ∷ []) ≡ taken (back (2 ^ 64 - 1)) ∷ refused ∷ []
unfolding Nanos.fitted Delta.difference Delta.negated Delta.plus Delta.minus
span_examples = (refl, refl, refl, refl)

-- seconds: none, one backwards, the most and one more, either way; i64::MIN
units_examples :
    map (λ n. Delta.units n 1000000000) (pos 0 ∷ negsuc 0 ∷ pos 18446744073 ∷ pos 18446744074 ∷ negsuc 18446744073 ∷ negsuc (2 ^ 63 - 1) ∷ []) ≡
    taken Delta.zero ∷ taken (back 1000000000) ∷ taken (on 18446744073000000000) ∷ refused ∷ refused ∷ refused ∷ []
unfolding Nanos.fitted Delta.units
units_examples = refl

-- milliseconds: the most backwards and one more, i64::MAX and i64::MIN
millis_examples :
    map (λ n. Delta.units n 1000000) (negsuc 18446744073708 ∷ negsuc 18446744073709 ∷ pos (2 ^ 63 - 1) ∷ negsuc (2 ^ 63 - 1) ∷ []) ≡
    taken (back 18446744073709000000) ∷ refused ∷ refused ∷ refused ∷ []
unfolding Nanos.fitted Delta.units
millis_examples = refl

-- towards zero, so that -1 ns halved is negative zero; by 0 a finite one is refused, an infinite one stays
over_examples :
    map (λ d. Delta.over d 2) (on 7 ∷ back 1 ∷ NegativeInfinity ∷ []) ≡ all (on 3 ∷ back 0 ∷ NegativeInfinity ∷ [])
    × map (λ d. Delta.over d 0) (on 7 ∷ back 0 ∷ PositiveInfinity ∷ []) ≡ refused ∷ refused ∷ taken PositiveInfinity ∷ []
unfolding Nanos.over Delta.over
over_examples = (refl, refl)

-- negative zero is below positive zero; a longer negative span is below a shorter
order_examples :
    map (Delta.order (back 0)) (back 0 ∷ on 0 ∷ back 1 ∷ NegativeInfinity ∷ []) ≡ Equal ∷ Less ∷ Greater ∷ Greater ∷ []
    × map (Delta.larger (back 0)) (on 0 ∷ back 1 ∷ []) ≡ on 0 ∷ back 0 ∷ []
    × map (Time.order (Exact 5)) (DistantPast ∷ Exact 4 ∷ Exact 5 ∷ DistantFuture ∷ []) ≡ Greater ∷ Greater ∷ Equal ∷ Less ∷ []
unfolding Delta.order Time.order
order_examples = (refl, refl, refl)

-- 125,000 bytes in half a second, in less than none, in either zero, in either infinite time: 2e6, -2e6, 0, 0, 0.0 and -0.0 bit/s; 2^53 + 1 bytes are refused
rate_examples :
    map (Delta.rate (size (pos 125000))) (on 500000000 ∷ back 500000000 ∷ on 0 ∷ back 0 ∷ PositiveInfinity ∷ NegativeInfinity ∷ []) ≡
    map (λ b. taken (Rate.rate (bits b))) (0x413E848000000000 ∷ 0xC13E848000000000 ∷ 0 ∷ 0 ∷ 0 ∷ 0x8000000000000000 ∷ [])
    × Delta.rate (size (pos (2 ^ 53 + 1))) (on 0) ≡ refused
unfolding add div eq in_float mul neg of_bits of_int seconds Rate.over float Delta.in_seconds Delta.rate
rate_examples = (refl, refl)

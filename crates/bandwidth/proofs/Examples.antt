-- Worked examples of the definitions in specs/, which antt computes. They test the definitions; no proof cites them.
use Rattle.std.specs.Prelude.{◌≡◌, ℕ, ◌+◌, ◌-◌, ◌^◌, true, false, List, [], ◌∷◌, ◌++◌, map, replicate, ℤ, pos, negsuc, refl, Some, None, Result, Ok, Err}
use Rattle.std.specs.Float.Ieee.{add, div, eq, in_float, le, lt, mul, of_bits, of_int, round, sub, to_signed, to_unsigned}
use Rattle.float.specs.Rounded.{bits}
use Rattle.float.specs.Rust.{ceiling, half_away}
use Rattle.float.specs.Answer.{clamped}
use Rattle.refusal.specs.declared.Refusal.{Refusal}
use Rattle.refusal.specs.declared.Refusal.TheVariants.{Arithmetic}
use Rattle.integer.specs.Fitted.{fitted as fitted_integer, unsigned as unsigned_integer, in_i64}
use Rattle.duration.specs.Seconds.{seconds}
use Rattle.bandwidth.specs.Rate as Rate
use Rattle.bandwidth.specs.Size as Size
use Rattle.bandwidth.specs.declared.Bitrate.{Bitrate}
use Rattle.bandwidth.specs.declared.DataSize.{DataSize}

-- ---- rates

abbrev bps : ℕ → Bitrate
bps b = Rate.rate (bits b)

abbrev least_rate : Bitrate
least_rate = bps 0xFFF0000000000000

abbrev infinite : Bitrate
infinite = bps 0x7FF0000000000000

abbrev not_anumber : Bitrate
not_anumber = bps 0x7FF8000000000000

abbrev minus_one : Bitrate
minus_one = bps 0xBFF0000000000000

abbrev one : Bitrate
one = bps 0x3FF0000000000000

abbrev two : Bitrate
two = bps 0x4000000000000000

-- minus infinity, -1, -0.0, 0.0, 1, 2, infinity, NaN
abbrev rates : List Bitrate
rates = least_rate ∷ minus_one ∷ bps 0x8000000000000000 ∷ bps 0 ∷ one ∷ two ∷ infinite ∷ not_anumber ∷ []

abbrev taken : Bitrate → Result Bitrate Refusal
taken r = Ok r

abbrev refused : {A : Type 0} → Result A Refusal
refused = Err Arithmetic

-- a whole number above 2^53 goes to the nearest float, a tie to the even one: 2^53 + 1 down, 2^53 + 3 up; u64::MAX is the constant MAX
nearest_examples :
    map Rate.nearest (9007199254740993 ∷ 9007199254740995 ∷ 18446744073709551615 ∷ []) ≡
    bps 0x4340000000000000 ∷ bps 0x4340000000000002 ∷ bps 0x43F0000000000000 ∷ []
unfolding of_bits of_int
nearest_examples = refl

-- 2^64 - 1 bit/s, and one more
whole_examples : map Rate.whole_rate ((2 ^ 64 - 1) ∷ (2 ^ 64) ∷ []) ≡ taken (bps 0x43F0000000000000) ∷ refused ∷ []
unfolding of_bits of_int Rate.whole_rate
whole_examples = refl

-- as_u64 of 0.25, -0.5, -1.5, NaN, the infinities, 2^64 and the float below it
upwards_examples :
    map (λ b. Rate.upwards (bps b)) (0x3FD0000000000000 ∷ 0xBFE0000000000000 ∷ 0xBFF8000000000000 ∷ 0x7FF8000000000000 ∷ []) ≡ 1 ∷ 0 ∷ 0 ∷ 0 ∷ []
    × map (λ b. Rate.upwards (bps b)) (0x7FF0000000000000 ∷ 0xFFF0000000000000 ∷ 0x43F0000000000000 ∷ 0x43EFFFFFFFFFFFFF ∷ []) ≡
    (2 ^ 64 - 1) ∷ 0 ∷ (2 ^ 64 - 1) ∷ (2 ^ 64 - 2048) ∷ []
unfolding of_bits round to_unsigned ceiling Rate.upwards
upwards_examples = (refl, refl)

-- valid: all but the infinities and NaN
valid_examples :
    map Rate.valid rates ≡ None ∷ Some minus_one ∷ Some (bps 0x8000000000000000) ∷ Some (bps 0) ∷ Some one ∷ Some two ∷ None ∷ None ∷ []
unfolding of_bits Rate.valid
valid_examples = refl

-- 1, infinity, minus infinity and NaN, each minus each rate: infinity minus itself is NaN, and taken, since it is at least itself
minus_examples :
    map (Rate.minus one) rates ≡ map taken (infinite ∷ two ∷ one ∷ one ∷ bps 0 ∷ []) ++ replicate 3 refused
    × map (Rate.minus infinite) rates ≡ replicate 6 (taken infinite) ++ (taken not_anumber ∷ refused ∷ [])
    × map (Rate.minus least_rate) rates ≡ taken not_anumber ∷ replicate 7 refused
    × map (Rate.minus not_anumber) rates ≡ replicate 8 refused
unfolding le of_bits sub Rate.minus
minus_examples = (refl, refl, refl, refl)

-- each rate over 0.0 and over -0.0 is rate zero; 1 bit/s over -1, 2, infinity, minus infinity and NaN
over_examples :
    map (λ r. Rate.over r (bits 0)) rates ≡ replicate 8 Rate.zero
    × map (λ r. Rate.over r (bits 0x8000000000000000)) rates ≡ replicate 8 Rate.zero
    × map (λ (r : Bitrate). Rate.over one r.bps) (minus_one ∷ two ∷ infinite ∷ least_rate ∷ not_anumber ∷ []) ≡
    minus_one ∷ bps 0x3FE0000000000000 ∷ bps 0 ∷ bps 0x8000000000000000 ∷ not_anumber ∷ []
unfolding div eq of_bits Rate.over
over_examples = (refl, refl, refl)

-- ---- the limit of 10^15 bit/s (Q-5)

-- it is 10^15, a whole number that a float holds
most_is : Rate.most_rate ≡ Rate.nearest (10 ^ 15)
unfolding of_bits of_int
most_is = refl

-- half of it, it and the next float; 10^300 and its negative; the negative of it and of its double
abbrev half_most : Bitrate
half_most = bps 0x42FC6BF526340000

abbrev past_most : Bitrate
past_most = bps 0x430C6BF526340001

abbrev huge : Bitrate
huge = bps 0x7E37E43C8800759C

abbrev minus_huge : Bitrate
minus_huge = bps 0xFE37E43C8800759C

abbrev minus_most : Bitrate
minus_most = bps 0xC30C6BF526340000

abbrev minus_twice : Bitrate
minus_twice = bps 0xC31C6BF526340000

abbrev product : Bitrate → Bitrate → Bitrate
product r factor = Rate.times r factor.bps

-- twice the half is the limit itself, twice the limit is cut; times 1.02, and the next float times 1; 10^300 squared, which fits no float
products_cut :
    product half_most two ∷ product Rate.most_rate two ∷ product Rate.most_rate (bps 0x3FF051EB851EB852) ∷ product past_most one ∷ product huge huge ∷ [] ≡
    replicate 5 Rate.most_rate
unfolding lt mul of_bits Rate.limited Rate.times
products_cut = refl

-- negative results stay, minus infinity too; so does what comes of an operand that is not finite: infinity, also as the factor, and NaN
products_kept :
    product minus_most two ∷ product minus_huge huge ∷ [] ≡ minus_twice ∷ least_rate ∷ []
    × product infinite two ∷ product two infinite ∷ product least_rate minus_one ∷ product infinite infinite ∷ [] ≡ replicate 4 infinite
    × product not_anumber two ∷ product infinite (bps 0) ∷ [] ≡ replicate 2 not_anumber
unfolding lt mul of_bits Rate.limited Rate.times
products_kept = (refl, refl, refl)

-- the same of sums: half and half, the limit and one bit/s more, the next float and 0.0, the largest float twice
sums_cut :
    Rate.plus half_most half_most ∷ Rate.plus Rate.most_rate one ∷ Rate.plus past_most (bps 0) ∷ Rate.plus (bps 0x7FEFFFFFFFFFFFFF) (bps 0x7FEFFFFFFFFFFFFF) ∷ []
    ≡ replicate 4 Rate.most_rate
unfolding add lt of_bits Rate.limited Rate.plus
sums_cut = refl

sums_kept :
    Rate.plus minus_most minus_most ∷ Rate.plus minus_huge minus_most ∷ [] ≡ minus_twice ∷ minus_huge ∷ []
    × Rate.plus infinite one ∷ Rate.plus one infinite ∷ Rate.plus infinite huge ∷ Rate.plus infinite infinite ∷ [] ≡ replicate 4 infinite
    × Rate.plus infinite least_rate ∷ Rate.plus one not_anumber ∷ [] ≡ replicate 2 not_anumber
unfolding add lt of_bits Rate.limited Rate.plus
sums_kept = (refl, refl, refl)

-- the limit by itself: of 10^300 and of infinity, which came of finite operands or not
limits :
    Rate.limited true huge ∷ Rate.limited true infinite ∷ Rate.limited false huge ∷ Rate.limited false infinite ∷ Rate.limited true minus_huge ∷ [] ≡
    Rate.most_rate ∷ Rate.most_rate ∷ huge ∷ infinite ∷ minus_huge ∷ []
unfolding lt of_bits Rate.limited
limits = refl

-- ---- rates and sizes

-- 12 bit/s for a second are 1.5 bytes: 2; so -12 bit/s give -2; infinity the largest size; minus infinity the least; NaN 0
carried_examples :
    map (λ b. Rate.carried (bps b) (record { nanos = 1000000000 }))
    (0x4028000000000000 ∷ 0xC028000000000000 ∷ 0x7FF0000000000000 ∷ 0xFFF0000000000000 ∷ 0x7FF8000000000000 ∷ []) ≡
    Size.size (pos 2) ∷ Size.size (negsuc 1) ∷ Size.size (pos 9223372036854775807) ∷ Size.size (negsuc 9223372036854775807) ∷ Size.size (pos 0) ∷ []
unfolding add div mul of_bits of_int round to_signed half_away seconds Rate.carried
carried_examples = refl

-- 0 bit/s between 1 and 2; between infinity and 2, NaN and 2, 0 and NaN
clamp_examples :
    map (λ r. Rate.clamped (bps 0) r two) (one ∷ infinite ∷ not_anumber ∷ []) ≡ taken one ∷ refused ∷ refused ∷ []
    × Rate.clamped (bps 0) (bps 0) not_anumber ≡ refused
unfolding le lt of_bits clamped Rate.clamped
clamp_examples = (refl, refl)

-- ---- sizes

-- 2^53 and -2^53 bytes, and one beyond each
abbrev about_2_53 : List ℤ
about_2_53 = pos (2 ^ 53) ∷ negsuc (2 ^ 53 - 1) ∷ pos (2 ^ 53 + 1) ∷ negsuc (2 ^ 53) ∷ []

float_examples :
    map (λ z. Size.float (Size.size z)) about_2_53 ≡ Ok (bits 0x4340000000000000) ∷ Ok (bits 0xC340000000000000) ∷ refused ∷ refused ∷ []
    × map (λ z. Size.kilobytes (Size.size z)) about_2_53 ≡ Ok (bits 0x42A0624DD2F1A9FC) ∷ Ok (bits 0xC2A0624DD2F1A9FC) ∷ refused ∷ refused ∷ []
unfolding div in_float of_bits of_int Size.float Size.kilobytes
float_examples = (refl, refl)

-- over a second, and over none: a size beyond is refused first
seconds_examples :
    map (λ z. Size.over (Size.size z) (record { nanos = 1000000000 })) about_2_53 ≡
    taken (bps 0x4370000000000000) ∷ taken (bps 0xC370000000000000) ∷ refused ∷ refused ∷ []
    × map (λ z. Size.over (Size.size z) (record { nanos = 0 })) about_2_53 ≡ taken (bps 0) ∷ taken (bps 0) ∷ refused ∷ refused ∷ []
unfolding add div eq in_float mul of_bits of_int seconds Rate.over Size.float Size.over
seconds_examples = (refl, refl)

-- the largest and the least size
abbrev most : ℤ
most = pos 9223372036854775807

abbrev least : ℤ
least = negsuc 9223372036854775807

abbrev bytes : ℤ → Result DataSize Refusal
bytes z = Ok (Size.size z)

-- as_bytes_usize
unsigned_examples :
    map (λ z. Size.unsigned (Size.size z)) (pos 0 ∷ most ∷ negsuc 0 ∷ least ∷ []) ≡ Ok 0 ∷ Ok 9223372036854775807 ∷ refused ∷ refused ∷ []
unfolding Size.unsigned unsigned_integer
unsigned_examples = refl

-- sums, differences and differences of at least 0, with the largest and the least
arithmetic_examples :
    map (λ z. Size.plus (Size.size most) (Size.size z)) (pos 0 ∷ pos 1 ∷ least ∷ []) ≡ bytes most ∷ refused ∷ bytes (negsuc 0) ∷ []
    × map (λ z. Size.minus (Size.size least) (Size.size z)) (pos 0 ∷ pos 1 ∷ least ∷ []) ≡ bytes least ∷ refused ∷ bytes (pos 0) ∷ []
    × map (λ z. Size.saturating_minus (Size.size (pos 0)) (Size.size z)) (pos 1 ∷ negsuc 0 ∷ most ∷ least ∷ []) ≡
    bytes (pos 0) ∷ bytes (pos 1) ∷ bytes (pos 0) ∷ refused ∷ []
unfolding in_i64 fitted_integer Size.plus Size.minus Size.saturating_minus
arithmetic_examples = (refl, refl, refl)

-- 1 byte and size 0 × 2^63 - 1 and × 2^63: the factor is refused, whatever the size; the least size × 1 and × -1
times_examples :
    map (Size.times_unsigned (Size.size (pos 1))) ((2 ^ 63 - 1) ∷ (2 ^ 63) ∷ []) ≡ bytes most ∷ refused ∷ []
    × map (Size.times_unsigned (Size.size (pos 0))) ((2 ^ 63 - 1) ∷ (2 ^ 63) ∷ []) ≡ bytes (pos 0) ∷ refused ∷ []
    × map (λ z. Size.times_signed (Size.size least) z) (pos 1 ∷ negsuc 0 ∷ []) ≡ Ok least ∷ refused ∷ []
unfolding in_i64 fitted_integer Size.times_unsigned Size.times_signed
times_examples = (refl, refl, refl)

-- a sum stays refused, though what follows would bring it back; no sizes are 0
total_examples :
    map Size.total ([] ∷ (most ∷ negsuc 0 ∷ pos 1 ∷ []) ∷ (most ∷ pos 1 ∷ negsuc 0 ∷ []) ∷ (least ∷ negsuc 0 ∷ most ∷ []) ∷ []) ≡
    bytes (pos 0) ∷ bytes most ∷ refused ∷ refused ∷ []
unfolding in_i64 fitted_integer Size.plus Size.total
total_examples = refl

-- What Rust's methods on f64 answer, each in one definition. Definitions only.
-- The library (lib.Ieee) already has: `finite` for is_finite, `is_nan`, `to_unsigned 64` for `as u64`, `to_signed 63` for `as i64`,
-- `of_bits` and `to_bits`, which are total, with one NaN, written 7FF8000000000000.
use Rattle.std.specs.Prelude.{ℕ, ◌+◌, ◌-◌, ◌*◌, ◌/◌, Bool, true, false, if◌then◌else◌, is_nan, Float}
use Rattle.std.specs.Float.{nan, inf, fin, binary64}
use Rattle.std.specs.Float.Ieee.{up, down, round, lt}

-- f64::abs: the sign bit cleared
unfoldable pub magnitude : Float → Float
magnitude nan = nan
magnitude (inf s) = inf false
magnitude (fin s m e) = fin false m e

-- f64::min and f64::max: the other operand when one is NaN; of two zeros the first
unfoldable pub minimum : Float → Float → Float
minimum a b = if is_nan a then b else (if lt b a then b else a)

unfoldable pub maximum : Float → Float → Float
maximum a b = if is_nan a then b else (if lt a b then b else a)

-- the float nearest to the whole number n, with the sign s
abbrev pub nearest_whole : Bool → ℕ → Float
nearest_whole s n = round binary64 s n 1

-- f64::ceil: the least whole number that is not below x. It keeps the sign, so -0.5 gives -0.0
unfoldable pub ceiling : Float → Float
ceiling nan = nan
ceiling (inf s) = inf s
ceiling (fin false m e) = nearest_whole false ((m * up e + (down e - 1)) / down e)
ceiling (fin true m e) = nearest_whole true (m * up e / down e)

-- f64::round: the nearest whole number, a half away from zero, which is the whole part of |x| + 1/2 with the sign of x
unfoldable pub half_away : Float → Float
half_away nan = nan
half_away (inf s) = inf s
half_away (fin s m e) = nearest_whole s ((2 * (m * up e) + down e) / (2 * down e))

-- f64::is_sign_negative: the sign, of -0.0 and the infinities too; the one NaN has none
unfoldable pub sign_bit : Float → Bool
sign_bit nan = false
sign_bit (inf s) = s
sign_bit (fin s m e) = s

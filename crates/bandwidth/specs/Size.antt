-- Sizes: what `DataSize` of bandwidth.rs answers. Definitions only.
use Rattle.std.specs.Prelude.{ℕ, Bool, if◌then◌else◌, List, ℤ, pos, ◌+ℤ◌, ◌-ℤ◌, ◌*ℤ◌, Float, Result, Ok, Err}
use Rattle.std.specs.Int.{int_max}
use Rattle.std.specs.Float.{binary64}
use Rattle.std.specs.Float.Ieee.{of_int, in_float}
use Rattle.refusal.specs.Outcome.{and_then, try_fold}
use Rattle.refusal.specs.declared.Refusal.{Refusal}
use Rattle.refusal.specs.declared.Refusal.TheVariants.{Arithmetic}
use Rattle.float.specs.Rounded.{◌⊗◌, ◌⊘◌, eight, thousand}
use Rattle.integer.specs.Fitted.{fitted as fitted_integer, unsigned as unsigned_integer}
use Rattle.duration.specs.Seconds.{seconds}
use Rattle.duration.specs.declared.Duration.{Duration}
use Rattle.bandwidth.specs.declared.Bitrate.{Bitrate}
use Rattle.bandwidth.specs.declared.DataSize.{DataSize}
use Rattle.bandwidth.specs.Rate.{rate, over as rate_over}

abbrev pub size : ℤ → DataSize
size z = record { bytes = z }

-- z bytes, refused where z fits no i64
abbrev pub fitted : ℤ → Result DataSize Refusal
fitted z = and_then (fitted_integer z) (λ bytes. Ok (size bytes))

-- ---- to other types

-- "a size beyond 2^53 in magnitude going to a float" is refused: whether z bytes are none
abbrev pub in_float_range : ℤ → Bool
in_float_range z = in_float binary64 z

-- as_bytes_f64
unfoldable pub float : DataSize → Result Float Refusal
float s = if in_float_range s.bytes then Ok (of_int binary64 s.bytes) else Err Arithmetic

-- bytes / 1000.0, refused as `float` is (as_kb)
unfoldable pub kilobytes : DataSize → Result Float Refusal
kilobytes s = and_then (float s) (λ bytes. Ok (bytes ⊘ thousand))

-- a negative size is refused (as_bytes_usize)
unfoldable pub unsigned : DataSize → Result ℕ Refusal
unsigned s = unsigned_integer s.bytes

-- ---- arithmetic

unfoldable pub plus : DataSize → DataSize → Result DataSize Refusal
plus a b = fitted (a.bytes +ℤ b.bytes)

unfoldable pub minus : DataSize → DataSize → Result DataSize Refusal
minus a b = fitted (a.bytes -ℤ b.bytes)

-- the difference is refused where it fits no i64; otherwise it is at least 0
unfoldable pub saturating_minus : DataSize → DataSize → Result DataSize Refusal
saturating_minus a b = and_then (minus a b) (λ rest. Ok (size (int_max rest.bytes (pos 0))))

-- Mul<i64>, whose answer is no DataSize
unfoldable pub times_signed : DataSize → ℤ → Result ℤ Refusal
times_signed s z = fitted_integer (s.bytes *ℤ z)

-- Mul<u64>: a factor above 2^63 - 1 is refused
unfoldable pub times_unsigned : DataSize → ℕ → Result DataSize Refusal
times_unsigned s n = and_then (fitted_integer (pos n)) (λ factor. fitted (s.bytes *ℤ factor))

-- the sum of a slice, from the left, refused at the first partial sum that fits no size (Sum)
unfoldable pub total : List ℤ → Result DataSize Refusal
total l = try_fold (λ sum z. plus sum (size z)) (size (pos 0)) l

-- size / seconds: a size beyond 2^53 is refused first, 0.0 seconds give rate zero, and else it is (bytes × 8.0) / seconds
abbrev pub over_seconds : DataSize → Float → Result Bitrate Refusal
over_seconds s x = and_then (float s) (λ bytes. Ok (rate_over (rate (bytes ⊗ eight)) x))

-- size / duration (Div<Duration>)
unfoldable pub over : DataSize → Duration → Result Bitrate Refusal
over s d = over_seconds s (seconds d)

-- Rates: what `Bitrate` of bandwidth.rs answers. Definitions only.
use Rattle.std.specs.Prelude.{ℕ, ◌^◌, Bool, if◌then◌else◌, ◌&&◌, pos, nat_lt, Float, Option, Some, None, Result, Ok, Err}
use Rattle.std.specs.Float.{binary64}
use Rattle.std.specs.Float.Ieee.{of_int, to_signed, to_unsigned, le, lt, eq}
use Rattle.std.specs.Float.Ieee.Scale.{finite}
use Rattle.refusal.specs.Outcome.{and_then}
use Rattle.refusal.specs.declared.Refusal.{Refusal}
use Rattle.refusal.specs.declared.Refusal.TheVariants.{Arithmetic}
use Rattle.float.specs.Rounded.{◌⊕◌, ◌⊖◌, ◌⊗◌, ◌⊘◌, bits, eight}
use Rattle.float.specs.Rust.{minimum, maximum, ceiling, half_away}
use Rattle.float.specs.Answer.{clamped as clamped_float}
use Rattle.duration.specs.Seconds.{seconds}
use Rattle.duration.specs.declared.Duration.{Duration}
use Rattle.bandwidth.specs.declared.Bitrate.{Bitrate}
use Rattle.bandwidth.specs.declared.DataSize.{DataSize}

abbrev pub rate : Float → Bitrate
rate x = record { bps = x }

abbrev pub zero : Bitrate
zero = rate (bits 0)

-- 10^15 bit/s: the most that code 2 takes, and the limit of products, sums and candidates (Q-5)
abbrev pub most_rate : Bitrate
most_rate = rate (bits 0x430C6BF526340000)

-- ---- from whole numbers

-- n bit/s: above 2^53 to the nearest float, ties to even (Bitrate::bps, From<u64>)
abbrev pub nearest : ℕ → Bitrate
nearest n = rate (of_int binary64 (pos n))

-- a whole rate above 2^64 - 1 bit/s is refused (kbps, mbps, gbps)
unfoldable pub whole_rate : ℕ → Result Bitrate Refusal
whole_rate n = if nat_lt n (2 ^ 64) then Ok (nearest n) else Err Arithmetic

-- ---- to other types

-- the least whole number not below it, at most 2^64 - 1, NaN as 0 (as_u64)
unfoldable pub upwards : Bitrate → ℕ
upwards r = to_unsigned 64 (ceiling r.bps)

-- Some where finite (as_valid)
unfoldable pub valid : Bitrate → Option Bitrate
valid r = if finite r.bps then Some r else None

-- ---- bounds

unfoldable pub clamped : Bitrate → Bitrate → Bitrate → Result Bitrate Refusal
clamped r min max = and_then (clamped_float r.bps min.bps max.bps) (λ x. Ok (rate x))

unfoldable pub smaller : Bitrate → Bitrate → Bitrate
smaller a b = rate (minimum a.bps b.bps)

unfoldable pub larger : Bitrate → Bitrate → Bitrate
larger a b = rate (maximum a.bps b.bps)

-- ---- arithmetic

-- rate × duration: bits / 8, rounded half away from zero, then saturated to i64, NaN to 0; never refused (Mul<Duration>)
unfoldable pub carried : Bitrate → Duration → DataSize
carried r d = record { bytes = to_signed 63 (half_away (r.bps ⊗ seconds d ⊘ eight)) }

-- "becomes 10^15 bit/s when its operands are finite and the result is larger. Infinite operands, which mean "absent", act as before." (Q-5)
unfoldable pub limited : Bool → Bitrate → Bitrate
limited operands_finite r = if operands_finite && lt most_rate.bps r.bps then most_rate else r

-- "a rate times a factor" (Mul<f64>)
unfoldable pub times : Bitrate → Float → Bitrate
times r x = limited (finite r.bps && finite x) (rate (r.bps ⊗ x))

-- refused unless the first is at least the second, so also where one is NaN (Sub)
unfoldable pub minus : Bitrate → Bitrate → Result Bitrate Refusal
minus a b = if le b.bps a.bps then Ok (rate (a.bps ⊖ b.bps)) else Err Arithmetic

-- "a rate plus a rate" (Add)
unfoldable pub plus : Bitrate → Bitrate → Bitrate
plus a b = limited (finite a.bps && finite b.bps) (rate (a.bps ⊕ b.bps))

-- a rate over 0.0 gives rate zero (Div<f64>)
unfoldable pub over : Bitrate → Float → Bitrate
over r x = if eq x (bits 0) then zero else rate (r.bps ⊘ x)

-- The hold, which keeps the estimate from rising straight after loss. Definitions only.
use Rattle.std.specs.Prelude.{false, if◌then◌else◌, Result, Ok, Float}
use Rattle.std.specs.Float.{inf}
use Rattle.std.specs.Float.Ieee.{le}
use Rattle.float.specs.Rounded.{◌⊗◌, bits}
use Rattle.refusal.specs.Outcome.{and_then}
use Rattle.refusal.specs.declared.Refusal.{Refusal}
use Rattle.duration.specs.Seconds.{seconds, nearest_nanos}
use Rattle.duration.specs.declared.Duration.{Duration}
use Rattle.bandwidth.specs.Rate.{rate}
use Rattle.bandwidth.specs.declared.Bitrate.{Bitrate}
use Rattle.time.specs.Time as Time
use Rattle.time.specs.declared.TimeDelta.TheVariants.{Positive}
use Rattle.time.specs.declared.Timestamp.{Timestamp}
use Rattle.time.specs.declared.Timestamp.TheVariants.{DistantPast}
use Rattle.config.specs.Config.{hold_duration_factor, init_hold_duration, max_hold_duration}
use Rattle.estimator.specs.declared.HoldInfo.{HoldInfo}

-- "Hold spans run 300 ms" at first (HoldInfo::default)
abbrev pub initial : HoldInfo
initial = record { timestamp = DistantPast; duration = init_hold_duration; rate = rate (inf false) }

-- 60 s as a float
abbrev pub sixty : Float
sixty = bits 0x404E000000000000

-- f64 seconds × 2.0
unfoldable pub twice : Duration → Float
twice d = seconds d ⊗ hold_duration_factor

-- "doubled on each entry into Decreasing (f64 seconds × 2.0, back to the nearest ns, ties to even), at most 60 s"; proofs/Span.antt has that below
-- 60.0 the seconds are a duration, and that it is the Rust's minimum of 60 s and that duration
unfoldable pub doubled : Duration → Duration
doubled d = if le sixty (twice d) then max_hold_duration else record { nanos = nearest_nanos (twice d) }

-- a hold at this rate that ends when the span has passed; refused where that time is (last_hold_info on "Entering Decreasing state")
unfoldable pub entered : HoldInfo → Bitrate → Timestamp → Result HoldInfo Refusal
entered h best t =
    and_then (Time.plus t (Positive h.duration)) (λ end. Ok (record { timestamp = end; duration = doubled h.duration; rate = best }))

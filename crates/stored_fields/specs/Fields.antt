-- Rates and times as fields of the stored files. Definitions only.
use Rattle.std.specs.Prelude.{ℕ, if◌then◌else◌, ◌==◌, Option, Some, None}
use Rattle.std.specs.Float.{binary64}
use Rattle.std.specs.Float.Ieee.{to_bits}
use Rattle.duration.specs.Nanos.{ns}
use Rattle.time.specs.declared.TimeDelta.{TimeDelta}
use Rattle.time.specs.declared.TimeDelta.TheVariants.{NegativeInfinity, Negative, Positive, PositiveInfinity}
use Rattle.time.specs.declared.Timestamp.{Timestamp}
use Rattle.time.specs.declared.Timestamp.TheVariants.{DistantPast, Exact, DistantFuture}
use Rattle.bandwidth.specs.declared.Bitrate.{Bitrate}
use Rattle.stored_fields.specs.declared.Pair.{Pair}

-- a rate that may be there is two fields: None 0 0, Some 1 and its bits
abbrev pub option_case : Option Bitrate → ℕ
option_case (Some r) = 1
option_case None = 0

abbrev pub option_bits : Option Bitrate → ℕ
option_bits (Some r) = to_bits binary64 r.bps
option_bits None = 0

abbrev pub of_option : Option Bitrate → Pair
of_option r = record { case = option_case r; value = option_bits r }

-- a time is two fields: DistantPast 0 0, Exact 1 and its ns, DistantFuture 2 0
abbrev pub timestamp : ℕ → ℕ → Timestamp
timestamp case ns = if case == 0 then DistantPast else (if case == 1 then Exact ns else DistantFuture)

abbrev pub timestamp_case : Timestamp → ℕ
timestamp_case DistantPast = 0
timestamp_case (Exact ns) = 1
timestamp_case DistantFuture = 2

abbrev pub timestamp_ns : Timestamp → ℕ
timestamp_ns DistantPast = 0
timestamp_ns (Exact ns) = ns
timestamp_ns DistantFuture = 0

abbrev pub of_timestamp : Timestamp → Pair
of_timestamp t = record { case = timestamp_case t; value = timestamp_ns t }

-- a difference of times is two fields: NegativeInfinity 0 0, Negative 1 and its ns, Positive 2 and its ns, PositiveInfinity 3 0
abbrev pub delta : ℕ → ℕ → TimeDelta
delta case n =
    if case == 0 then NegativeInfinity else (if case == 1 then Negative (ns n) else (if case == 2 then Positive (ns n) else PositiveInfinity))

abbrev pub of_delta : TimeDelta → Pair
of_delta NegativeInfinity = record { case = 0; value = 0 }
of_delta (Negative d) = record { case = 1; value = d.nanos }
of_delta (Positive d) = record { case = 2; value = d.nanos }
of_delta PositiveInfinity = record { case = 3; value = 0 }

-- Durations and their seconds as floats. Definitions only.
use Rattle.std.specs.Prelude.{ℕ, ◌*◌, ◌/◌, ◌%◌, if◌then◌else◌, pos, Float, Result, Err}
use Rattle.std.specs.Float.{nan, inf, fin, binary64}
use Rattle.std.specs.Float.Ieee.{of_int, up, down, lt}
use Rattle.std.specs.Float.Ieee.Nearest.{closest}
use Rattle.float.specs.Rounded.{◌⊕◌, ◌⊘◌, bits}
use Rattle.refusal.specs.declared.Refusal.{Refusal}
use Rattle.refusal.specs.declared.Refusal.TheVariants.{Arithmetic}
use Rattle.duration.specs.Nanos.{fitted}
use Rattle.duration.specs.declared.Duration.{Duration}

-- a second in ns, and as a float
abbrev pub nanos_per_second : ℕ
nanos_per_second = 1000000000

abbrev pub billion : Float
billion = bits 0x41CDCD6500000000

-- whole seconds plus (rest in ns / 1e9), each operation rounded once ("One report, in order"; Duration::as_secs_f64)
unfoldable pub seconds : Duration → Float
seconds d =
    of_int binary64 (pos (d.nanos / nanos_per_second))
    ⊕ of_int binary64 (pos (d.nanos % nanos_per_second)) ⊘ billion

-- the nearest ns of so many seconds, the sign left out: the exact value is rounded once, a tie to the even one
unfoldable pub nearest_nanos : Float → ℕ
nearest_nanos nan = 0
nearest_nanos (inf s) = 0
nearest_nanos (fin s m e) = closest (m * up e * nanos_per_second) (down e)

-- that, refused where it fits no u64, or x is negative or no number (Duration::from_secs_f64); -0.0 is 0 ns
unfoldable pub from_seconds : Float → Result Duration Refusal
from_seconds nan = Err Arithmetic
from_seconds (inf s) = Err Arithmetic
from_seconds (fin s m e) = if lt (fin s m e) (bits 0) then Err Arithmetic else fitted (nearest_nanos (fin s m e))

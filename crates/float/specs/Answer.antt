-- f64::clamp, where it may be refused. Definitions only.
use Rattle.std.specs.Prelude.{if◌then◌else◌, Float, Result, Ok, Err}
use Rattle.std.specs.Float.Ieee.{lt, le}
use Rattle.refusal.specs.declared.Refusal.{Refusal}
use Rattle.refusal.specs.declared.Refusal.TheVariants.{Arithmetic}

-- refused where the lower bound is above the upper, or one of them is NaN; a NaN value stays NaN
unfoldable pub clamped : Float → Float → Float → Result Float Refusal
clamped x min max =
    if le min max then Ok (if lt x min then min else (if lt max x then max else x)) else Err Arithmetic

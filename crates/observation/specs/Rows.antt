-- The window as the rows that the likelihood reads. Definitions only.
use Rattle.std.specs.Prelude.{ℕ, Bool, true, false, if◌then◌else◌, List, map, ℤ, pos, ◌-ℤ◌, Float, Result, Ok, Err}
use Rattle.std.specs.Result.{result_unwrap_or}
use Rattle.std.specs.Float.{binary64}
use Rattle.std.specs.Float.Ieee.{of_int}
use Rattle.refusal.specs.declared.Refusal.{Refusal}
use Rattle.refusal.specs.declared.Refusal.TheVariants.{Arithmetic}
use Rattle.float.specs.Rounded.{bits}
use Rattle.bandwidth.specs.Rate as Rate
use Rattle.bandwidth.specs.Size as Size
use Rattle.logarithm.specs.Power.{weight}
use Rattle.likelihood.specs.declared.Row.{Row}
use Rattle.observation.specs.Ratio.{age, readable}
use Rattle.observation.specs.declared.Observation.{Observation}
use Rattle.observation.specs.declared.Observations.{Observations}

-- the row of an empty slot
abbrev pub empty_row : Row
empty_row = record { is_initialized = false; weight = bits 0; lost = bits 0; received = bits 0; total = bits 0; sending_rate = Rate.zero }

-- bytes / 1000.0 (DataSize::as_kb), of bytes that a float holds
abbrev pub kilobytes : ℤ → Float
kilobytes z = result_unwrap_or (Size.kilobytes (Size.size z)) (bits 0)

-- what `get_objective` and `get_derivatives` read of an observation by bytes: its weight, `lost_size.as_kb()`, `(size - lost_size).as_kb()`,
-- `size.as_kb()` and its rate
abbrev pub byte_row : Float → Observation → Row
byte_row weight o =
    record {
      is_initialized = true;
      weight = weight;
      lost = kilobytes (pos o.lost_size);
      received = kilobytes (pos o.size -ℤ pos o.lost_size);
      total = kilobytes (pos o.size);
      sending_rate = o.sending_rate;
    }

-- `as f64` of a count: to the nearest
abbrev pub nearest : ℕ → Float
nearest n = of_int binary64 (pos n)

-- and by packets: its weight, `num_lost_packets as f64`, `num_received_packets as f64`, `num_packets as f64` and its rate, which is of bytes all the
-- same (Q-7)
abbrev pub packet_row : Float → Observation → Row
packet_row weight o =
    record {
      is_initialized = true;
      weight = weight;
      lost = nearest o.num_lost_packets;
      received = nearest o.num_received_packets;
      total = nearest o.num_packets;
      sending_rate = o.sending_rate;
    }

unfoldable pub row_of : Bool → ℕ → Observation → Row
row_of use_bytes count o =
    let w = weight (age count o.id) in
    if o.is_initialized then if use_bytes then byte_row w o else packet_row w o else empty_row

-- the rows in slot order
unfoldable pub rows : Observations → Result (List Row) Refusal
rows o =
    let use_bytes = o.use_byte_loss_ratio in
    if readable use_bytes o.observations then Ok (map (row_of use_bytes o.num_observations) o.observations) else Err Arithmetic

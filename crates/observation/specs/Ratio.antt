-- The loss ratio of the window, and the ceiling that it sets. Definitions only.
use Rattle.std.specs.Prelude.{ℕ, ◌-◌, Bool, true, if◌then◌else◌, ◌&&◌, List, [], ◌∷◌, pos, nat_lt, Float, Option, Some, None, Result, Ok, Err}
use Rattle.std.specs.List.{list_all}
use Rattle.std.specs.Float.Ieee.{lt}
use Rattle.std.specs.Float.Ieee.Scale.{finite}
use Rattle.refusal.specs.Outcome.{and_then}
use Rattle.refusal.specs.declared.Refusal.{Refusal}
use Rattle.refusal.specs.declared.Refusal.TheVariants.{Arithmetic}
use Rattle.bandwidth.specs.Rate as Rate
use Rattle.bandwidth.specs.Size as Size
use Rattle.bandwidth.specs.declared.Bitrate.{Bitrate}
use Rattle.config.specs.Config as Config
use Rattle.rounding.specs.Exact.{Measured}
use Rattle.rounding.specs.Ratio.{loss_ratio, loss_ceiling}
use Rattle.observation.specs.declared.Observation.{Observation}
use Rattle.observation.specs.declared.Observations.{Observations}

-- ---- the window as the ratio sees it

-- "The age of an observation is (count - 1) - its id, always below 15"; an id that is not below the count is beyond the window, and weighs nothing
unfoldable pub age : ℕ → ℕ → ℕ
age count id = if nat_lt id count then count - 1 - id else Config.observation_window_size

-- an observation's total and its lost part: in bytes, or where `use_byte_loss_ratio` is false in packets (Q-7)
abbrev pub total_of : Bool → Observation → ℕ
total_of use_bytes o = if use_bytes then o.size else o.num_packets

abbrev pub lost_of : Bool → Observation → ℕ
lost_of use_bytes o = if use_bytes then o.lost_size else o.num_lost_packets

abbrev pub measured : Bool → ℕ → Observation → Measured
measured use_bytes count o = record { age = age count o.id; total = total_of use_bytes o; lost = lost_of use_bytes o }

-- "sums run in slot order": the observations of the initialised slots, in the order of the slots
unfoldable pub window : Bool → ℕ → List Observation → List Measured
window use_bytes count [] = []
window use_bytes count (o ∷ os) =
    if o.is_initialized then measured use_bytes count o ∷ window use_bytes count os else window use_bytes count os

-- "a size beyond 2^53 in magnitude going to a float" is refused: whether both of an observation go. "a count of packets goes to the nearest and is
-- never refused" (Q-7)
abbrev pub floats : Bool → Observation → Bool
floats use_bytes o = if use_bytes then Size.in_float_range (pos o.size) && Size.in_float_range (pos o.lost_size) else true

-- those of a slot, where it is initialised, and those of every such slot
abbrev pub legible : Bool → Observation → Bool
legible use_bytes o = if o.is_initialized then floats use_bytes o else true

unfoldable pub readable : Bool → List Observation → Bool
readable use_bytes os = list_all (legible use_bytes) os

-- ---- average_reported_loss_ratio

unfoldable pub average_reported_loss_ratio : Observations → Result Float Refusal
average_reported_loss_ratio o =
    let use_bytes = o.use_byte_loss_ratio in
    if readable use_bytes o.observations then Ok (loss_ratio (window use_bytes o.num_observations o.observations)) else Err Arithmetic

-- ---- calculate_instant_upper_bound

-- the maximum rate; above 0.05, 100 kbps / (ratio - 0.05), so that "a ratio equal to 0.05 sets no ceiling"
unfoldable pub instant_limit : Float → Bitrate
instant_limit ratio = if lt Config.instant_upper_bound_loss_offset ratio then Rate.rate (loss_ceiling ratio) else Config.max_bitrate

unfoldable pub instant_upper_bound : Observations → Result Bitrate Refusal
instant_upper_bound o = and_then (average_reported_loss_ratio o) (λ ratio. Ok (instant_limit ratio))

-- ---- get_instant_upper_bound

-- the maximum, which is infinite, where a rate is not valid
unfoldable pub valid_or_max : Bitrate → Bitrate
valid_or_max r = if finite r.bps then r else Config.max_bitrate

unfoldable pub cached : Option Bitrate → Bitrate
cached (Some r) = valid_or_max r
cached None = Config.max_bitrate

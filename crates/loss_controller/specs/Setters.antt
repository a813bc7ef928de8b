-- The four setters, and the code 2. A call that is refused answers the refusal alone, and leaves the controller with its caller ("hands the
-- controller back unchanged", demand 1). Definitions only.
use Rattle.std.specs.Prelude.{ℕ, Bool, ◌&&◌, ◌||◌, if◌then◌else◌, Option, Some, None, is_some, Result, Ok, Err}
use Rattle.std.specs.Bool.{beq}
use Rattle.std.specs.Float.Ieee.{lt}
use Rattle.std.specs.Float.Ieee.Scale.{finite}
use Rattle.float.specs.Rounded.{bits}
use Rattle.float.specs.Rust.{sign_bit}
use Rattle.refusal.specs.Outcome.{and_then}
use Rattle.refusal.specs.declared.Refusal.{Refusal}
use Rattle.refusal.specs.declared.Refusal.TheVariants.{Rate}
use Rattle.bandwidth.specs.Rate.{rate, most_rate}
use Rattle.bandwidth.specs.declared.Bitrate.{Bitrate}
use Rattle.packets.specs.Summary.{check_time}
use Rattle.observation.specs.Window.{cleared}
use Rattle.loss_controller.specs.declared.LossController.{LossController}

-- a rate by its 64 bits, as histories and call lists have it
abbrev pub rate_of : ℕ → Bitrate
rate_of n = rate (bits n)

-- ---- the codes

-- "2: a finite rate with sign bit set (negative zero too) or above 10^15. Non-finite rates are taken."
unfoldable pub check_rate : Bitrate → Result (Unit {0}) Refusal
check_rate r = if finite r.bps && (sign_bit r.bps || lt most_rate.bps r.bps) then Err Rate else Ok tt

unfoldable pub check_capacity : Option Bitrate → Result (Unit {0}) Refusal
check_capacity (Some r) = check_rate r
check_capacity None = Ok tt

unfoldable pub check_start : Option ℕ → Result (Unit {0}) Refusal
check_start (Some start) = check_time start
check_start None = Ok tt

-- ---- the rates

unfoldable pub set_bandwidth_estimate : LossController → Bitrate → Result LossController Refusal
set_bandwidth_estimate c r =
    and_then (check_rate r)
    (λ _.
    Ok
    (record c { estimator = record c.estimator { current_estimate = record c.estimator.current_estimate { loss_limited_bandwidth = r } } }))

unfoldable pub set_acknowledged_bitrate : LossController → Bitrate → Result LossController Refusal
set_acknowledged_bitrate c r =
    and_then (check_rate r) (λ _. Ok (record c { inputs = record c.inputs { acknowledged_bitrate = r } }))

unfoldable pub set_link_capacity_estimate : LossController → Option Bitrate → Result LossController Refusal
set_link_capacity_estimate c capacity =
    and_then (check_capacity capacity) (λ _. Ok (record c { inputs = record c.inputs { link_capacity_estimate = capacity } }))

-- ---- ALR

-- "whether it was on is read from" the start
abbrev pub is_in_alr : LossController → Bool
is_in_alr c = is_some c.inputs.alr_start_time

unfoldable pub with_alr_start_time : LossController → Option ℕ → LossController
with_alr_start_time c start = record c { inputs = record c.inputs { alr_start_time = start } }

-- "An ALR change empties window, running sums, reference time and loss ceiling. It keeps the observation count, estimate, hold and state."
unfoldable pub reset_observations : LossController → LossController
reset_observations c = record c { observations = cleared c.observations.use_byte_loss_ratio c.observations.num_observations }

-- "Setting ALR on twice is no change", but for the start that is stored
unfoldable pub set_alr_start_time : LossController → Option ℕ → Result LossController Refusal
set_alr_start_time c start =
    let set = with_alr_start_time c start in
    and_then (check_start start) (λ _. Ok (if beq (is_in_alr c) (is_some start) then set else reset_observations set))

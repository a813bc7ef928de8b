-- What is read of the controller. Definitions only.
use Rattle.std.specs.Prelude.{ℕ, if◌then◌else◌, Option, Some, None, Result, ◌==◌, Float}
use Rattle.std.specs.Float.Ieee.Scale.{finite}
use Rattle.refusal.specs.declared.Refusal.{Refusal}
use Rattle.bandwidth.specs.Rate.{smaller}
use Rattle.bandwidth.specs.declared.Bitrate.{Bitrate}
use Rattle.candidates.specs.Bound.{at_most}
use Rattle.observation.specs.Ratio as Ratio
use Rattle.loss_controller.specs.declared.LossController.{LossController}
use Rattle.loss_controller.specs.declared.LossBasedBweResult.{LossBasedBweResult}

-- the estimate, where it is finite; once there are observations at most the delay estimate, where that is finite, and the loss ceiling
unfoldable pub published : LossController → Option Bitrate
published c =
    let own = c.estimator.current_estimate.loss_limited_bandwidth in
    let limited = smaller (at_most c.inputs.delay_based_estimate own) (Ratio.cached c.observations.cached_instant_upper_bound) in
    if finite own.bps then Some (if c.observations.num_observations == 0 then own else limited) else None

-- loss_based_result
unfoldable pub loss_based_result : LossController → LossBasedBweResult
loss_based_result c = record { bandwidth_estimate = published c; state = c.estimator.state }

-- "Two reads are added by design: the loss ratio and the count of completed observations."
unfoldable pub average_reported_loss_ratio : LossController → Result Float Refusal
average_reported_loss_ratio c = Ratio.average_reported_loss_ratio c.observations

abbrev pub num_observations : LossController → ℕ
num_observations c = c.observations.num_observations

abbrev pub inherent_loss : LossController → Float
inherent_loss c = c.estimator.current_estimate.inherent_loss

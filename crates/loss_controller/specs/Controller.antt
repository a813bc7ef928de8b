-- The controller as it is made. Definitions only.
use Rattle.std.specs.Prelude.{Bool, false, None}
use Rattle.std.specs.Float.{inf}
use Rattle.bandwidth.specs.Rate as Rate
use Rattle.observation.specs.Window.{cleared}
use Rattle.estimator.specs.Update as Update
use Rattle.loss_controller.specs.declared.LossController.{LossController}

-- a fresh controller: no observation, no estimate, infinite rates, not in ALR, no link capacity. Loss is by bytes, as LossController::new has it, or by
-- packets: "the profile with `use_byte_loss_ratio` false, fixed when a controller is made" (Q-7)
abbrev pub initial : Bool → LossController
initial use_bytes =
    record {
      observations = cleared use_bytes 0;
      estimator = Update.initial;
      inputs =
          record {
            acknowledged_bitrate = Rate.rate (inf false);
            delay_based_estimate = Rate.rate (inf false);
            alr_start_time = None;
            link_capacity_estimate = None;
          };
    }

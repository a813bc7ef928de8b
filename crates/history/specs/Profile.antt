-- The profile is "fixed when a controller is made" (request Q-7). Definitions only.
use Rattle.std.specs.Prelude.{◌≡◌, Bool, List}
use Rattle.loss_controller.specs.Controller.{initial}
use Rattle.loss_controller.specs.declared.LossController.{LossController}
use Rattle.history.specs.Calls.{Call}
use Rattle.history.specs.Run.{left_of}

-- true for bytes, false for packets
abbrev pub profile_of : LossController → Bool
profile_of c = c.observations.use_byte_loss_ratio

-- it is the one that a controller is made with, and no calls change it, whatever the controller
pub record KeepsProfile : Type 0 where
  pub made : (use_bytes : Bool) → profile_of (initial use_bytes) ≡ use_bytes
  pub kept : (c : LossController) (calls : List Call) → profile_of (left_of c calls) ≡ profile_of c

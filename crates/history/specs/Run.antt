-- A list of calls on the controller, each on what the last one left. Definitions only.
use Rattle.std.specs.Prelude.{Bool, List, [], ◌∷◌, fold, option_map, Result, Ok, is_err}
use Rattle.std.specs.Result.{result_unwrap_or}
use Rattle.refusal.specs.declared.Refusal.{Refusal}
use Rattle.loss_controller.specs.Controller.{initial}
use Rattle.loss_controller.specs.Setters.{rate_of, set_bandwidth_estimate, set_acknowledged_bitrate, set_alr_start_time, set_link_capacity_estimate}
use Rattle.loss_controller.specs.Report.{update_bandwidth_estimate}
use Rattle.loss_controller.specs.declared.LossController.{LossController}
use Rattle.history.specs.Calls.{Call, estimate, acknowledged, alr, capacity, report, read, Told}

-- ---- one call: what its function's contract says
unfoldable pub step : LossController → Call → Result LossController Refusal
step c (estimate rate) = set_bandwidth_estimate c (rate_of rate)
step c (acknowledged rate) = set_acknowledged_bitrate c (rate_of rate)
step c (alr start) = set_alr_start_time c start
step c (capacity rate) = set_link_capacity_estimate c (option_map rate_of rate)
step c (report times sizes flags delay) = update_bandwidth_estimate c times sizes flags (rate_of delay)
step c read = Ok c

-- what it leaves: a call that is refused answers the refusal alone, and the caller still has the controller
abbrev pub next : LossController → Call → LossController
next c call = result_unwrap_or (step c call) c

-- what the history is told of a call
unfoldable pub told_of : LossController → Call → Told
told_of c call = record { call = call; refused = is_err (step c call) }

-- ---- a list of them, oldest first

-- "each call getting the controller that the last one left and nobody else writing it" (demand 3)
abbrev pub left_of : LossController → List Call → LossController
left_of c calls = fold next c calls

unfoldable pub all_told : LossController → List Call → List Told
all_told c [] = []
all_told c (call ∷ calls) = told_of c call ∷ all_told (next c call) calls

-- from a fresh controller of a profile: true for bytes, false for packets (Q-7)
abbrev pub left : Bool → List Call → LossController
left use_bytes calls = left_of (initial use_bytes) calls

abbrev pub told : Bool → List Call → List Told
told use_bytes calls = all_told (initial use_bytes) calls

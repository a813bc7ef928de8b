-- Every call keeps the profile, whatever the controller. Assumes nothing.
use Rattle.std.proofs.Common.{rules, ◌≡◌, List, [], ◌∷◌, Result, IfOk, refl, ◌∙◌}
use Rattle.refusal.specs.declared.Refusal.{Refusal}
use Rattle.bandwidth.specs.declared.Bitrate.{Bitrate}
use Rattle.packets.specs.declared.PacketResultsSummary.{PacketResultsSummary}
use Rattle.observation.specs.Window as Window
use Rattle.observation.specs.declared.Added.{Added}
use Rattle.observation.proofs.AfterReport.{added_by}
use Rattle.loss_controller.specs.Setters as Setters
use Rattle.loss_controller.specs.Setters.{rate_of, check_rate, check_capacity, check_start, is_in_alr, with_alr_start_time, reset_observations}
use Rattle.loss_controller.specs.Report as Report
use Rattle.loss_controller.specs.declared.LossController.{LossController}
use Rattle.history.specs.Calls.{Call}
use Rattle.history.specs.Profile.{profile_of, KeepsProfile}
use Rattle.history.specs.Run.{step, next, left_of}

-- ---- one call

module _ (c : LossController) where
  abbrev Same : Result LossController Refusal → Type 0
  Same a = IfOk a (λ d. profile_of d ≡ profile_of c)

  added_same : (s : PacketResultsSummary) → IfOk (Window.added c.observations s) (λ (a : Added). a.observations.use_byte_loss_ratio ≡ profile_of c)
  unfolding Window.with_ceiling Window.stored Window.with_partial
  added_same s =
      added_by c.observations s (λ r. IfOk r (λ (a : Added). a.observations.use_byte_loss_ratio ≡ profile_of c)) (λ n. refl) (λ e. tt)
      (λ q new ceiling u e n r. refl) (λ q u e. refl)

  reported_same : (s : PacketResultsSummary) (delay : Bitrate) → Same (Report.reported c s delay)
  unfolding Report.reported Report.with_delay_based_estimate Report.observed
  reported_same s delay = search (rules, added_same s)

  step_same : (call : Call) → Same (step c call)
  unfolding step Setters.set_bandwidth_estimate Setters.set_acknowledged_bitrate Setters.set_link_capacity_estimate Setters.set_alr_start_time
      with_alr_start_time reset_observations Window.cleared Report.update_bandwidth_estimate
  step_same call = search (rules, reported_same)

  next_same : (call : Call) → profile_of (next c call) ≡ profile_of c
  next_same call = search (rules, step_same call)

-- ---- a list

kept : (c : LossController) (calls : List Call) → profile_of (left_of c calls) ≡ profile_of c
kept c [] = refl
kept c (call ∷ calls) = kept (next c call) calls ∙ next_same c call

pub keeps_profile : KeepsProfile
unfolding Window.cleared
keeps_profile = record { made = λ use_bytes. refl; kept = kept }

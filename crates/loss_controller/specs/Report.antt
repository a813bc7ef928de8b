-- One report, in order (document 01; `update_bandwidth_estimate`). Definitions only.
use Rattle.std.specs.Prelude.{ℕ, Bool, ◌&&◌, if◌then◌else◌, List, Result, Ok, Err, ◌==◌, Float}
use Rattle.std.specs.Bool.{then_some}
use Rattle.std.specs.Float.Ieee.Scale.{finite}
use Rattle.refusal.specs.Outcome.{and_then}
use Rattle.refusal.specs.declared.Refusal.{Refusal}
use Rattle.refusal.specs.declared.Refusal.TheVariants.{TooManyPackets}
use Rattle.bandwidth.specs.declared.Bitrate.{Bitrate}
use Rattle.packets.specs.Summary.{check_time, check_columns, summary_of, is_of_report}
use Rattle.packets.specs.declared.PacketResultsSummary.{PacketResultsSummary}
use Rattle.observation.specs.Ratio as Ratio
use Rattle.observation.specs.Rows as Rows
use Rattle.observation.specs.Window as Window
use Rattle.candidates.specs.Bound as Bound
use Rattle.candidates.specs.Candidate as Candidate
use Rattle.candidates.specs.Choice as Choice
use Rattle.candidates.specs.declared.Bounds.{Bounds}
use Rattle.estimator.specs.State.{is_limited_due_to_loss}
use Rattle.estimator.specs.Update as Update
use Rattle.estimator.specs.declared.Estimator.{Estimator}
use Rattle.estimator.specs.declared.Report.{Report}
use Rattle.loss_controller.specs.Setters.{check_rate, is_in_alr}
use Rattle.loss_controller.specs.declared.LossController.{LossController}

-- ---- steps 3 to 5, once an observation is complete: c has it

-- what the candidates' upper bound reads of the controller
unfoldable pub bounds : LossController → Bounds
bounds c =
    record {
      capacity = Bound.capacity (is_in_alr c) c.inputs.link_capacity_estimate;
      bandwidth_limit_in_current_window =
          then_some (is_limited_due_to_loss c.estimator.state) c.estimator.recovery.bandwidth_limit_in_current_window;
      instant_upper_bound = Ratio.cached c.observations.cached_instant_upper_bound;
      delay_based_estimate = c.inputs.delay_based_estimate;
      acknowledged_bitrate = c.inputs.acknowledged_bitrate;
      last_send_time = c.observations.last_send_time_most_recent_observation;
      last_time_estimate_reduced = c.estimator.last_time_estimate_reduced;
    }

-- and what the steps after the choice read
unfoldable pub report : LossController → Float → Report
report c ratio =
    record {
      average_reported_loss_ratio = ratio;
      acknowledged_bitrate = c.inputs.acknowledged_bitrate;
      delay_based_estimate = c.inputs.delay_based_estimate;
      last_send_time = c.observations.last_send_time_most_recent_observation;
    }

-- candidates, choice, then limits, hold and state; the first refusal in this order
unfoldable pub updated_estimator : LossController → Result Estimator Refusal
updated_estimator c =
    let current = c.estimator.current_estimate in
    let candidates = Candidate.candidates current (bounds c) in
    and_then (Rows.rows c.observations)
    (λ rows.
    and_then (Ratio.average_reported_loss_ratio c.observations)
    (λ ratio.
    and_then (Choice.choice c.observations.use_byte_loss_ratio current candidates rows ratio)
    (λ best. Update.applied c.estimator best (report c ratio))))

-- ---- steps 1 and 2

-- "With a non-finite estimate a completed observation is kept and the update stops."
unfoldable pub has_valid_estimate : LossController → Bool
has_valid_estimate c = finite c.estimator.current_estimate.loss_limited_bandwidth.bps

-- the estimate anew where the observation is complete
unfoldable pub observed : LossController → Bool → Result LossController Refusal
observed c completed =
    if completed && has_valid_estimate c
    then and_then (updated_estimator c) (λ e. Ok (record c { estimator = e }))
    else Ok c

-- the delay estimate is stored
unfoldable pub with_delay_based_estimate : LossController → Bitrate → LossController
with_delay_based_estimate c delay = record c { inputs = record c.inputs { delay_based_estimate = delay } }

-- "An empty report stores the delay estimate and does no more."
unfoldable pub reported : LossController → PacketResultsSummary → Bitrate → Result LossController Refusal
reported c s delay =
    let stored = with_delay_based_estimate c delay in
    if s.num_packets == 0
    then Ok stored
    else and_then (Window.added c.observations s) (λ added. observed (record stored { observations = added.observations }) added.completed)

-- ---- the call

-- "A report checks 4, 5, 2, then each packet's 3, 17 and 8, then 10, 11", which are `Window.added`'s
unfoldable pub update_bandwidth_estimate : LossController → List ℕ → List ℕ → List ℕ → Bitrate → Result LossController Refusal
update_bandwidth_estimate c times sizes flags delay =
    and_then (check_columns times sizes flags)
    (λ _. and_then (check_rate delay) (λ _. and_then (summary_of times sizes flags) (λ summary. reported c summary delay)))

-- of packets that are summed up already: 5 for totals that no report of at most 4,096 packets has, 2, 3, then 10, 11
unfoldable pub update_with_summary : LossController → PacketResultsSummary → Bitrate → Result LossController Refusal
update_with_summary c s delay =
    if is_of_report s
    then and_then (check_rate delay) (λ _. and_then (check_time s.last_send_time) (λ _. reported c s delay))
    else Err TooManyPackets

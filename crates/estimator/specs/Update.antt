-- What `update_bandwidth_estimate` does once the best candidate is chosen. Definitions only.
use Rattle.std.specs.Prelude.{Bool, ◌&&◌, if◌then◌else◌, Result, Ok}
use Rattle.std.specs.Float.Ieee.{lt}
use Rattle.refusal.specs.Outcome.{and_then}
use Rattle.refusal.specs.declared.Refusal.{Refusal}
use Rattle.bandwidth.specs.Rate as Rate
use Rattle.bandwidth.specs.declared.Bitrate.{Bitrate}
use Rattle.std.specs.Ordering.{is_gt}
use Rattle.time.specs.Time as Time
use Rattle.time.specs.declared.Timestamp.{Timestamp}
use Rattle.time.specs.declared.Timestamp.TheVariants.{DistantPast}
use Rattle.config.specs.Config.{max_bitrate}
use Rattle.likelihood.specs.Feasible.{initial as first_parameters}
use Rattle.likelihood.specs.declared.ChannelParameters.{ChannelParameters}
use Rattle.estimator.specs.State.{is_decreasing}
use Rattle.estimator.specs.Hold as Hold
use Rattle.estimator.specs.Recovery as Recovering
use Rattle.estimator.specs.Increase.{current, increase_limited, is_estimate_increasing_when_loss_limited}
use Rattle.estimator.specs.declared.LossControllerState.{LossControllerState}
use Rattle.estimator.specs.declared.LossControllerState.TheVariants.{Increasing, Decreasing, DelayBased}
use Rattle.estimator.specs.declared.HoldInfo.{HoldInfo}
use Rattle.estimator.specs.declared.Estimator.{Estimator}
use Rattle.estimator.specs.declared.Report.{Report}

-- LossController::new
abbrev pub initial : Estimator
initial =
    record {
      state = DelayBased;
      current_estimate = first_parameters;
      last_hold_info = Hold.initial;
      last_time_estimate_reduced = DistantPast;
      recovery = Recovering.initial;
    }

-- a best rate below the current one is a reduction, at the last send time (last_time_estimate_reduced)
unfoldable pub with_reduction_noted : Estimator → ChannelParameters → Timestamp → Estimator
with_reduction_noted e best t =
    if lt best.loss_limited_bandwidth.bps (current e).bps then record e { last_time_estimate_reduced = t } else e

-- ---- the hold

-- Decreasing, the hold not yet over, and the rate below the delay estimate ("HOLD check")
unfoldable pub is_in_hold : Estimator → Bitrate → Report → Bool
is_in_hold e rate r =
    is_decreasing e.state
    && (is_gt (Time.order e.last_hold_info.timestamp r.last_send_time) && lt rate.bps r.delay_based_estimate.bps)

-- "During HOLD period, cap estimate at HOLD rate"; all else stays
unfoldable pub held : Estimator → ChannelParameters → Estimator
held e best =
    record e {
      current_estimate = record best { loss_limited_bandwidth = Rate.smaller best.loss_limited_bandwidth e.last_hold_info.rate };
    }

-- ---- the new state

-- below the delay estimate and below the maximum
unfoldable pub is_limiting : Bitrate → Bitrate → Bool
is_limiting rate delay = lt rate.bps delay.bps && lt rate.bps max_bitrate.bps

-- Increasing, Decreasing or, where loss does not limit the estimate, DelayBased ("State transitions")
unfoldable pub new_state : Estimator → Bitrate → Bitrate → LossControllerState
new_state e rate delay =
    if is_limiting rate delay
    then if is_estimate_increasing_when_loss_limited e rate then Increasing else Decreasing
    else DelayBased

-- on entry into Decreasing the next hold; "Only DelayBased resets them."
unfoldable pub new_hold_info : Estimator → LossControllerState → Bitrate → Timestamp → Result HoldInfo Refusal
new_hold_info e Increasing rate t = Ok e.last_hold_info
new_hold_info e Decreasing rate t = if is_decreasing e.state then Ok e.last_hold_info else Hold.entered e.last_hold_info rate t
new_hold_info e DelayBased rate t = Ok Hold.initial

-- the new state with its hold, the best candidate, and the window by the new state; the hold's refusal comes before the window's
unfoldable pub with_new_state : Estimator → ChannelParameters → Report → Result Estimator Refusal
with_new_state e best r =
    let rate = best.loss_limited_bandwidth in
    let state = new_state e rate r.delay_based_estimate in
    and_then (new_hold_info e state rate r.last_send_time)
    (λ hold.
    and_then (Recovering.renewed e.recovery state rate r.last_send_time)
    (λ window. Ok (record e { state = state; current_estimate = best; last_hold_info = hold; recovery = window })))

-- ---- the whole

-- with the rate that the limits leave: the hold, or else the new state
unfoldable pub decided : Estimator → ChannelParameters → Report → Result Estimator Refusal
decided e best r = if is_in_hold e best.loss_limited_bandwidth r then Ok (held e best) else with_new_state e best r

unfoldable pub updated : Estimator → ChannelParameters → Report → Result Estimator Refusal
updated e best r = and_then (increase_limited e best r) (λ rate. decided e (record best { loss_limited_bandwidth = rate }) r)

-- step 5 of "One report, in order"
unfoldable pub applied : Estimator → ChannelParameters → Report → Result Estimator Refusal
applied e best r = updated (with_reduction_noted e best r.last_send_time) best r

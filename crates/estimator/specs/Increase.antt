-- The limits on an increase of the estimate, in the order of `update_bandwidth_estimate`. Definitions only.
use Rattle.std.specs.Prelude.{Bool, ◌&&◌, ◌||◌, if◌then◌else◌, Result, Ok, Float}
use Rattle.std.specs.Float.Ieee.{eq, lt}
use Rattle.std.specs.Float.Ieee.Scale.{finite}
use Rattle.refusal.specs.Outcome.{and_then}
use Rattle.refusal.specs.declared.Refusal.{Refusal}
use Rattle.bandwidth.specs.Rate as Rate
use Rattle.bandwidth.specs.declared.Bitrate.{Bitrate}
use Rattle.config.specs.Config.{bandwidth_rampup_hold_threshold, bandwidth_rampup_upper_bound_factor, bandwidth_rampup_upper_bound_factor_in_hold}
use Rattle.likelihood.specs.declared.ChannelParameters.{ChannelParameters}
use Rattle.estimator.specs.State.{is_limited_due_to_loss, is_increasing, is_decreasing}
use Rattle.estimator.specs.Recovery.{bounded}
use Rattle.estimator.specs.declared.HoldInfo.{HoldInfo}
use Rattle.estimator.specs.declared.Estimator.{Estimator}
use Rattle.estimator.specs.declared.Report.{Report}

-- the rate of the current estimate
abbrev pub current : Estimator → Bitrate
current e = e.current_estimate.loss_limited_bandwidth

-- "do not increase the estimate if the average loss is greater than current inherent loss"
unfoldable pub not_increased_above_inherent_loss : Estimator → ChannelParameters → Float → Bitrate
not_increased_above_inherent_loss e best ratio =
    if lt best.inherent_loss ratio && lt (current e).bps best.loss_limited_bandwidth.bps
    then current e
    else best.loss_limited_bandwidth

-- is_estimate_increasing_when_loss_limited
unfoldable pub is_estimate_increasing_when_loss_limited : Estimator → Bitrate → Bool
is_estimate_increasing_when_loss_limited e candidate =
    is_limited_due_to_loss e.state
    && (lt (current e).bps candidate.bps || (eq (current e).bps candidate.bps && is_increasing e.state))

-- 1.2 below 1.3 times a held rate, else 1.5
unfoldable pub rampup_factor : HoldInfo → Bitrate → Float
rampup_factor h acknowledged =
    if finite h.rate.bps && lt acknowledged.bps (Rate.times h.rate bandwidth_rampup_hold_threshold).bps
    then bandwidth_rampup_upper_bound_factor_in_hold
    else bandwidth_rampup_upper_bound_factor

-- at most the acknowledged rate times the factor, at least the current rate
unfoldable pub within_rampup : Estimator → Bitrate → Bitrate → Bitrate
within_rampup e best acknowledged =
    Rate.larger (current e) (Rate.smaller best (Rate.times acknowledged (rampup_factor e.last_hold_info acknowledged)))

-- that, and 1 bit/s more than the current rate where it is equal to it in Decreasing
unfoldable pub ramped_up : Estimator → Bitrate → Bitrate → Bitrate
ramped_up e best acknowledged =
    let ramped = within_rampup e best acknowledged in
    if is_decreasing e.state && eq ramped.bps (current e).bps then Rate.plus (current e) (Rate.nearest 1) else ramped

-- the limits of a state that loss limits: the window's, then the ramp-up's where the estimate increases and the acknowledged rate is finite
unfoldable pub increase_limited_due_to_loss : Estimator → Bitrate → Report → Result Bitrate Refusal
increase_limited_due_to_loss e best r =
    and_then (bounded e.recovery best r.last_send_time)
    (λ within.
    Ok
    (if is_estimate_increasing_when_loss_limited e within && finite r.acknowledged_bitrate.bps
    then ramped_up e within r.acknowledged_bitrate
    else within))

-- every limit
unfoldable pub increase_limited : Estimator → ChannelParameters → Report → Result Bitrate Refusal
increase_limited e best r =
    let kept = not_increased_above_inherent_loss e best r.average_reported_loss_ratio in
    if is_limited_due_to_loss e.state then increase_limited_due_to_loss e kept r else Ok kept

-- When two controllers are the same, part by part: every field of the Rust's structs, floats by their bits. Definitions only.
use Rattle.std.specs.Prelude.{ℕ, Bool, not, ◌&&◌, ◌||◌, List, ◌==◌, nat_eq, Option, Float}
use Rattle.std.specs.Bool.{beq}
use Rattle.std.specs.Float.{binary64}
use Rattle.std.specs.Float.Ieee.{to_bits}
use Rattle.std.specs.Ordering.{is_eq}
use Rattle.std.specs.Option.{option_eq}
use Rattle.std.specs.Cmp.Lexicographic.{pointwise}
use Rattle.time.specs.Time as Time
use Rattle.time.specs.declared.Timestamp.{Timestamp}
use Rattle.bandwidth.specs.declared.Bitrate.{Bitrate}
use Rattle.likelihood.specs.declared.ChannelParameters.{ChannelParameters}
use Rattle.observation.specs.declared.Observation.{Observation}
use Rattle.observation.specs.declared.PartialObservation.{PartialObservation}
use Rattle.estimator.specs.State.{number}
use Rattle.estimator.specs.declared.Estimator.{Estimator}
use Rattle.estimator.specs.declared.HoldInfo.{HoldInfo}
use Rattle.estimator.specs.declared.Recovery.{Recovery}
use Rattle.loss_controller.specs.declared.LossController.{LossController}
use Rattle.comparison.specs.declared.Changes.{Changes}

abbrev pub float : Float → Float → Bool
float a b = (to_bits binary64 a == to_bits binary64 b)

abbrev pub rate : Bitrate → Bitrate → Bool
rate a b = float a.bps b.bps

abbrev pub time : Timestamp → Timestamp → Bool
time a b = is_eq (Time.order a b)

abbrev pub option : Option Bitrate → Option Bitrate → Bool
option = option_eq rate

abbrev pub instant : Option ℕ → Option ℕ → Bool
instant = option_eq nat_eq

-- ---- the observations

abbrev pub sums : PartialObservation → PartialObservation → Bool
sums a b =
    (a.num_packets == b.num_packets)
    && ((a.num_lost_packets == b.num_lost_packets)
    && ((a.size == b.size)
    && (a.lost_size == b.lost_size)))

abbrev pub observation : Observation → Observation → Bool
observation a b =
    (a.num_packets == b.num_packets)
    && (a.num_lost_packets == b.num_lost_packets)
    && (a.num_received_packets == b.num_received_packets)
    && (a.size == b.size)
    && (a.lost_size == b.lost_size)
    && (a.id == b.id)
    && beq a.is_initialized b.is_initialized
    && rate a.sending_rate b.sending_rate

-- slot after slot
abbrev pub window : List Observation → List Observation → Bool
window = pointwise observation

-- ---- the estimator

abbrev pub parameters : ChannelParameters → ChannelParameters → Bool
parameters a b =
    float a.inherent_loss b.inherent_loss && rate a.loss_limited_bandwidth b.loss_limited_bandwidth

abbrev pub hold : HoldInfo → HoldInfo → Bool
hold a b = time a.timestamp b.timestamp && (a.duration.nanos == b.duration.nanos) && rate a.rate b.rate

abbrev pub recovery : Recovery → Recovery → Bool
recovery a b =
    time a.recovering_after_loss_timestamp b.recovering_after_loss_timestamp
    && rate a.bandwidth_limit_in_current_window b.bandwidth_limit_in_current_window

abbrev pub estimator : Estimator → Estimator → Bool
estimator a b =
    (number a.state == number b.state)
    && parameters a.current_estimate b.current_estimate
    && hold a.last_hold_info b.last_hold_info
    && time a.last_time_estimate_reduced b.last_time_estimate_reduced
    && recovery a.recovery b.recovery

-- ---- the controller

-- the parts that are not the same
abbrev pub changes : LossController → LossController → Changes
changes a b =
    let o = a.observations in
    let p = b.observations in
    let i = a.inputs in
    let j = b.inputs in
    record {
      profile = not (beq o.use_byte_loss_ratio p.use_byte_loss_ratio);
      sums = not (sums o.partial_observation p.partial_observation);
      time = not (time o.last_send_time_most_recent_observation p.last_send_time_most_recent_observation);
      count = not (o.num_observations == p.num_observations);
      window = not (window o.observations p.observations);
      ceiling = not (option o.cached_instant_upper_bound p.cached_instant_upper_bound);
      estimator = not (estimator a.estimator b.estimator);
      acknowledged = not (rate i.acknowledged_bitrate j.acknowledged_bitrate);
      delay = not (rate i.delay_based_estimate j.delay_based_estimate);
      alr = not (instant i.alr_start_time j.alr_start_time);
      capacity = not (option i.link_capacity_estimate j.link_capacity_estimate);
    }

-- no part differs
abbrev pub is_none : Changes → Bool
is_none c =
    not
    (c.profile
    || (c.sums || c.time || c.count || c.window || c.ceiling)
    || c.estimator
    || (c.acknowledged || c.delay || c.alr || c.capacity))

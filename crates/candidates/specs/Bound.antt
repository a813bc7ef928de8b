-- The bound on a candidate's rate. Definitions only.
use Rattle.std.specs.Prelude.{Bool, true, false, if◌then◌else◌, ◌&&◌, Float, Option, Some, None}
use Rattle.std.specs.Float.Ieee.Scale.{finite}
use Rattle.float.specs.Rounded.{◌⊗◌, ◌⊘◌}
use Rattle.float.specs.Rust.{minimum}
use Rattle.bandwidth.specs.Rate.{smaller, plus, times}
use Rattle.bandwidth.specs.declared.Bitrate.{Bitrate}
use Rattle.duration.specs.Seconds.{seconds}
use Rattle.time.specs.Delta.{in_seconds, larger, zero}
use Rattle.time.specs.Time.{since, is_exact}
use Rattle.time.specs.declared.TimeDelta.{TimeDelta}
use Rattle.config.specs.Config.{max_bitrate, rampup_acceleration_max_factor, rampup_acceleration_maxout_time}
use Rattle.candidates.specs.declared.Bounds.{Bounds}

-- an upper bound, and a limit where it is valid
unfoldable pub at_most : Bitrate → Bitrate → Bitrate
at_most limit bound = if finite limit.bps then smaller bound limit else bound

-- the maximum rate ("the maximum stays infinite"); the link capacity counts in ALR alone
unfoldable pub capacity : Bool → Option Bitrate → Bitrate
capacity true (Some c) = at_most c max_bitrate
capacity true None = max_bitrate
capacity false c = max_bitrate

-- while loss limits the rate, the limit in the current window too
unfoldable pub within : Option Bitrate → Bitrate → Bitrate
within (Some limit) bound = if finite limit.bps then smaller limit bound else bound
within None bound = bound

unfoldable pub in_window : Bounds → Bitrate
in_window b = within b.bandwidth_limit_in_current_window b.capacity

-- 60.0 × the seconds since the estimate was reduced, at most 60.0 of them, / 60.0 (rampup_acceleration)
unfoldable pub acceleration : TimeDelta → Float
acceleration delta =
    let maxout = seconds rampup_acceleration_maxout_time in
    seconds rampup_acceleration_max_factor ⊗ minimum maxout (in_seconds delta) ⊘ maxout

-- the least of the bounds above, the loss ceiling and the delay estimate; then, where there are an acknowledged rate and both times, that rate
-- × the acceleration is added, a time before the reduction counting as zero (get_candidate_bandwidth_upper_bound)
unfoldable pub upper_bound : Bounds → Bitrate
upper_bound b =
    let least = at_most b.delay_based_estimate (smaller b.instant_upper_bound (in_window b)) in
    let delta = larger (since b.last_send_time b.last_time_estimate_reduced) zero in
    if finite b.acknowledged_bitrate.bps && is_exact b.last_send_time && is_exact b.last_time_estimate_reduced
    then plus least (times b.acknowledged_bitrate (acceleration delta))
    else least

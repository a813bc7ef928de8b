-- The candidates, at most six ("One report, in order", 3). Definitions only.
use Rattle.std.specs.Prelude.{Bool, if◌then◌else◌, ◌&&◌, List, [], ◌∷◌, ◌++◌, map, Float}
use Rattle.std.specs.Float.Ieee.{lt}
use Rattle.std.specs.Float.Ieee.Scale.{finite}
use Rattle.bandwidth.specs.Rate.{rate, smaller, larger, limited, times}
use Rattle.bandwidth.specs.declared.Bitrate.{Bitrate}
use Rattle.config.specs.Config.{candidate_factor_up, candidate_factor_same, candidate_factor_down, bandwidth_backoff_lower_bound_factor}
use Rattle.likelihood.specs.Feasible.{feasible}
use Rattle.likelihood.specs.declared.ChannelParameters.{ChannelParameters}
use Rattle.candidates.specs.Bound.{upper_bound}
use Rattle.candidates.specs.declared.Bounds.{Bounds}

-- ---- their rates

-- `factor * current`, the factor being the first operand
unfoldable pub scaled : Float → Bitrate → Bitrate
scaled factor current = times (rate factor) current.bps

-- "the delay estimate if finite and above the current"
unfoldable pub above : Bitrate → Bitrate → Bool
above delay current = finite delay.bps && lt current.bps delay.bps

-- one rate under a condition
abbrev pub only : Bool → Bitrate → List Bitrate
only wanted r = if wanted then r ∷ [] else []

-- 1.02, 1.00 and 0.95 times the current rate; the delay estimate if finite and above the current; the acknowledged rate × 1.0 if finite;
-- the delay estimate × 1.0 under its earlier condition
unfoldable pub bandwidths : Bitrate → Bitrate → Bitrate → List Bitrate
bandwidths current delay acknowledged =
    (scaled candidate_factor_up current ∷ scaled candidate_factor_same current ∷ scaled candidate_factor_down current ∷ [])
    ++ only (above delay current) delay
    ++ only (finite acknowledged.bps) (times acknowledged bandwidth_backoff_lower_bound_factor)
    ++ only (above delay current) (times delay bandwidth_backoff_lower_bound_factor)

-- ---- their parameters

-- "cut to the larger of current rate and bound"; "each candidate becomes 10^15 bit/s when its operands are finite and the result is larger" (Q-5):
-- its operand is the rate that it is made of, and an infinite bound, being absent, cuts nothing, as before
unfoldable pub cut : Bitrate → Bitrate → Bitrate → Bitrate
cut current bound bandwidth = limited (finite bandwidth.bps) (smaller bandwidth (larger current bound))

-- "then its inherent loss made feasible"; it is the current one
unfoldable pub candidate : ChannelParameters → Bitrate → Bitrate → ChannelParameters
candidate current bound bandwidth =
    let c = record current { loss_limited_bandwidth = cut current.loss_limited_bandwidth bound bandwidth } in
    record c { inherent_loss = feasible c }

-- get_candidates
unfoldable pub candidates : ChannelParameters → Bounds → List ChannelParameters
candidates current b =
    map
    (candidate current (upper_bound b))
    (bandwidths current.loss_limited_bandwidth b.delay_based_estimate b.acknowledged_bitrate)

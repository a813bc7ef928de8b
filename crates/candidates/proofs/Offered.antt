-- The candidates' rates are not negative and at most 10^15, and their upper bound is a float of binary64. Assumes nothing.
use mathlib.Core.Bool.{Bool, true, false, ◌&&◌}
use mathlib.Core.List.{[], ◌∷◌, ◌++◌}
use lib.Dec.{T}
use lib.Ieee.{Float, lt, of_bits}
use lib.Ieee.Fits.{and_l}
use lib.Ieee.Scale.{finite}
use Rattle.std.specs.Prelude.{IfSome, Option, Some, None}
use Rattle.std.specs.List.{All}
use Rattle.std.proofs.lemmas.List.Elements.{All-nil, All-cons, All-append, All-from_recursion, All-map, All-weaker}
use Rattle.float.proofs.NotNegative.{upward, maximum_not_negative}
use Rattle.float.proofs.Refusal.{either}
use Rattle.bandwidth.specs.Rate.{rate, larger, times}
use Rattle.bandwidth.specs.declared.Bitrate.{Bitrate}
use Rattle.bandwidth.proofs.NotNegativeRate.{HoldsRate, smaller_holds}
use Rattle.bandwidth.proofs.Limited.{LimitedRate, limited_finite, limited_kept, times_limited, plus_holds, smaller_limited}
use Rattle.time.specs.Time.{is_exact}
use Rattle.config.specs.Config.{candidate_factor_up, candidate_factor_same, candidate_factor_down, bandwidth_backoff_lower_bound_factor}
use Rattle.likelihood.specs.declared.ChannelParameters.{ChannelParameters}
use Rattle.candidates.specs.Bound.{at_most, within, in_window, upper_bound}
use Rattle.candidates.specs.Candidate.{scaled, above, only, bandwidths, cut, candidate, candidates}
use Rattle.candidates.specs.declared.Bounds.{Bounds}

-- ---- the upper bound

within_holds : (limit : Option Bitrate) (bound : Bitrate) → IfSome limit HoldsRate → HoldsRate bound → HoldsRate (within limit bound)
unfolding within
within_holds (Some limit) bound l b = either HoldsRate (finite limit.bps) _ _ (smaller_holds limit bound l b) b
within_holds None bound l b = b

-- it is a float of binary64 where it reads such floats
pub bound_holds :
    (b : Bounds) → HoldsRate b.capacity → IfSome b.bandwidth_limit_in_current_window HoldsRate → HoldsRate b.instant_upper_bound →
    HoldsRate b.delay_based_estimate → HoldsRate (upper_bound b)
unfolding upper_bound at_most in_window
bound_holds b capacity window instant delay =
    let least = smaller_holds b.instant_upper_bound (in_window b) instant (within_holds b.bandwidth_limit_in_current_window b.capacity window capacity) in
    either HoldsRate (finite b.acknowledged_bitrate.bps && is_exact b.last_send_time && is_exact b.last_time_estimate_reduced) _ _
    (plus_holds _ _) (either HoldsRate (finite b.delay_based_estimate.bps) _ _ (smaller_holds _ b.delay_based_estimate least delay) least)

-- ---- the candidates

-- the rate is not negative and at most 10^15
abbrev pub Fair : ChannelParameters → Type 0
Fair c = LimitedRate c.loss_limited_bandwidth

-- so it is where it is finite
abbrev pub FairWhereFinite : Bitrate → Type 0
FairWhereFinite r = T (finite r.bps) → LimitedRate r

each_only : (wanted : Bool) (r : Bitrate) → (T wanted → LimitedRate r) → All LimitedRate (only wanted r)
each_only true r n = All-cons LimitedRate r [] (n tt) (All-nil LimitedRate)
each_only false r n = All-nil LimitedRate

module _ (current delay acknowledged : Bitrate) (n : LimitedRate current) (d : FairWhereFinite delay) (a : FairWhereFinite acknowledged) where
  scaled_limited : (factor : Float) → T (finite factor) → T (upward factor) → LimitedRate (scaled factor current)
  unfolding scaled
  scaled_limited factor g u = times_limited (rate factor) current.bps g u (limited_finite current n) n.forward.above

  backoff_limited : (r : Bitrate) → FairWhereFinite r → T (finite r.bps) → LimitedRate (times r bandwidth_backoff_lower_bound_factor)
  unfolding of_bits
  backoff_limited r k g = times_limited r bandwidth_backoff_lower_bound_factor g (k g).forward.above tt tt

  valid : T (above delay current) → T (finite delay.bps)
  unfolding above
  valid h = and_l (finite delay.bps) (lt current.bps delay.bps) h

  bandwidths_limited : All LimitedRate (bandwidths current delay acknowledged)
  unfolding bandwidths of_bits
  bandwidths_limited =
      let kept = scaled candidate_factor_up current ∷ scaled candidate_factor_same current ∷ scaled candidate_factor_down current ∷ [] in
      let estimate = only (above delay current) delay in
      let acknowledged_rate = only (finite acknowledged.bps) (times acknowledged bandwidth_backoff_lower_bound_factor) in
      All-append LimitedRate (kept ++ estimate ++ acknowledged_rate) _
      (All-append LimitedRate (kept ++ estimate) acknowledged_rate
      (All-append LimitedRate kept estimate
      (All-from_recursion LimitedRate kept (scaled_limited _ tt tt, (scaled_limited _ tt tt, (scaled_limited _ tt tt, tt))))
      (each_only (above delay current) delay (λ h. d (valid h))))
      (each_only (finite acknowledged.bps) _ (backoff_limited acknowledged a)))
      (each_only (above delay current) _ (λ h. backoff_limited delay d (valid h)))

-- so is each, where the current rate is so, and the two estimates are where they are finite
pub candidates_fair :
    (current : ChannelParameters) (b : Bounds) → Fair current → FairWhereFinite b.delay_based_estimate →
    FairWhereFinite b.acknowledged_bitrate → HoldsRate (upper_bound b) → All Fair (candidates current b)
unfolding candidates candidate cut larger
candidates_fair current b n d a u =
    let rates = bandwidths current.loss_limited_bandwidth b.delay_based_estimate b.acknowledged_bitrate in
    All-map Fair (candidate current (upper_bound b)) rates
    (All-weaker LimitedRate (λ (r : Bitrate). Fair (candidate current (upper_bound b) r))
    (λ r k. limited_kept _ _ (smaller_limited r _ k (maximum_not_negative (upper_bound b).bps n.forward u))) rates
    (bandwidths_limited current.loss_limited_bandwidth b.delay_based_estimate b.acknowledged_bitrate n d a))

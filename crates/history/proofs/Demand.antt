-- Demand 3: after every list of calls. Assumes nothing.
use Rattle.std.proofs.Common.{rules, cond, IfSome, T, eqb, ◌∙◌, arith, ne_eqb}
use lib.Ieee.Scale.{finite}
use Rattle.rounding.specs.Plain.{plain}
use Rattle.rounding.proofs.Upward.{upward_plain}
use Rattle.bandwidth.specs.Rate.{smaller}
use Rattle.bandwidth.specs.declared.Bitrate.{Bitrate}
use Rattle.bandwidth.proofs.Limited.{LimitedRate, limited_finite, smaller_limited}
use Rattle.candidates.specs.Bound.{at_most}
use Rattle.observation.specs.Ratio.{cached}
use Rattle.loss_controller.specs.Controller.{initial}
use Rattle.loss_controller.specs.Result.{published, loss_based_result, average_reported_loss_ratio}
use Rattle.loss_controller.specs.declared.LossController.{LossController}
use Rattle.history.specs.History.{History, after}
use Rattle.history.specs.WeighedPairs.{weighed_lost, weighed_total}
use Rattle.history.specs.Run.{left, told}
use Rattle.history.specs.Profile.{profile_of}
use Rattle.history.specs.Demand.{UnderLossCeiling, Demand, Demand3}
use Rattle.history.proofs.Profile.{keeps_profile}
use Rattle.history.proofs.Weighed.{ratio_taken, counted, ratio_near, ceiling_near}
use Rattle.history.proofs.Reached.{Reached, ceiling_not_negative}
use Rattle.history.proofs.Step.{reached}
use Rattle.history.proofs.Under.{minimum_under}

-- a limited rate is finite with its sign clear
pub limited_plain : (r : Bitrate) → LimitedRate r → T (plain r.bps)
limited_plain r l = search (rules, upward_plain, limited_finite)

module _ (c : LossController) (h : History) (r : Reached c h) where
  -- ---- a published rate

  abbrev own : Bitrate
  own = c.estimator.current_estimate.loss_limited_bandwidth

  abbrev delayed : Bitrate
  delayed = at_most c.inputs.delay_based_estimate own

  abbrev ceiling : Bitrate
  ceiling = cached c.observations.cached_instant_upper_bound

  -- the estimate is finite, and it or the smallest of the three is published
  pub published_by : (P : Bitrate → Type 0) → (T (finite own.bps) → P (cond (eqb c.observations.num_observations 0) own (smaller delayed ceiling)))
      → IfSome (loss_based_result c).bandwidth_estimate P
  unfolding loss_based_result published
  published_by P holds = search rules

  delayed_limited : T (finite own.bps) → LimitedRate delayed
  unfolding at_most
  delayed_limited f = search (rules, smaller_limited own, r.estimator.rates.current f, r.inputs.delay.limited)

  -- it is limited, so what holds of limited rates holds of it
  pub published_limited : (P : Bitrate → Type 0) → ((r : Bitrate) → LimitedRate r → P r) → IfSome (loss_based_result c).bandwidth_estimate P
  published_limited P holds = search (rules, published_by, smaller_limited, delayed_limited, ceiling_not_negative)

  -- ---- the claim

  pub demanded : Demand (profile_of c) c h
  unfolding average_reported_loss_ratio smaller
  demanded =
      let o = c.observations in
      let w = r.tied.windowed in
      record {
        counted = w.count;
        near = λ some. rw (ratio_taken o h w) (ratio_near o h w some);
        clear = published_limited (λ published. T (plain published.bps)) limited_plain;
        capped = λ some six. let near = ceiling_near o h w some six in
            published_by (λ published. UnderLossCeiling published.bps (weighed_lost (profile_of c) h) (weighed_total (profile_of c) h))
            (λ f. rw (ne_eqb o.num_observations 0 (λ z. omega (arith, counted o h w some)), r.tied.ceiling ∙ near.0)
            (minimum_under near.1 (omega (arith, six)) delayed.bps (limited_plain delayed (delayed_limited f))));
      }

-- and every list leaves one, of the profile that it began with
pub demand_3 : Demand3
demand_3 use_bytes calls =
    let c = left use_bytes calls in
    let h = after (told use_bytes calls) in
    search (rules, demanded c h (reached use_bytes calls), keeps_profile.kept (initial use_bytes) calls, keeps_profile.made use_bytes)

-- From a fresh estimator on, no report is refused while the send times are at most 4·10^18 ns and the chosen rates are not negative and at most 10^15:
-- the window's start is then such a time, the hold's span at most 60 s, the estimator's rates are not negative, the current one at most 10^15, and each
-- report keeps that. Assumes nothing.
use Rattle.std.proofs.Common.{◌≡◌, ◌+◌, ◌≤◌, true, ◌&&◌, T, refl, Result, Ok, arith, lit≤}
use Rattle.std.proofs.lemmas.Bool.Decides.{nat_tests}
use lib.Ieee.{Float, binary64, lt, eq, of_bits, of_int}
use lib.Ieee.Bits.{of_bits-fits}
use lib.Ieee.Scale.{finite}
use Rattle.float.proofs.NotNegative.{inf_not_negative, maximum_not_negative}
use Rattle.float.proofs.Refusal.{either, tested}
use Rattle.refusal.specs.declared.Refusal.{Refusal}
use Rattle.refusal.proofs.Gives.{Gives, gives}
use Rattle.duration.specs.Nanos.{fitted}
use Rattle.duration.specs.declared.Duration.{Duration}
use Rattle.bandwidth.specs.Rate as Rate
use Rattle.bandwidth.specs.declared.Bitrate.{Bitrate}
use Rattle.bandwidth.proofs.NotNegativeRate.{NotNegativeRate, smaller_holds, nearest_not_negative}
use Rattle.bandwidth.proofs.Limited.{LimitedRate, limited_finite, times_holds, plus_limited, below_limited, smaller_within, smaller_limited, larger_limited}
use Rattle.time.specs.Time.{plus}
use Rattle.time.specs.declared.TimeDelta.TheVariants.{Positive}
use Rattle.time.specs.declared.Timestamp.{Timestamp}
use Rattle.time.specs.declared.Timestamp.TheVariants.{DistantPast, Exact, DistantFuture}
use Rattle.config.specs.Config.{delayed_increase_window, congestion_controller_min_bitrate}
use Rattle.likelihood.specs.declared.ChannelParameters.{ChannelParameters}
use Rattle.estimator.specs.State.{is_limited_due_to_loss, is_decreasing}
use Rattle.estimator.specs.Hold as Hold
use Rattle.estimator.specs.Recovery as Recovering
use Rattle.estimator.specs.Increase as Increase
use Rattle.estimator.specs.Update as Update
use Rattle.estimator.specs.declared.LossControllerState.{LossControllerState}
use Rattle.estimator.specs.declared.LossControllerState.TheVariants.{Increasing, Decreasing, DelayBased}
use Rattle.estimator.specs.declared.HoldInfo.{HoldInfo}
use Rattle.estimator.specs.declared.Recovery.{Recovery}
use Rattle.estimator.specs.declared.Estimator.{Estimator}
use Rattle.estimator.specs.declared.Report.{Report}
use Rattle.estimator.proofs.Span.{doubled_short}

-- at most 4·10^18 ns where it is an instant
abbrev pub Timely : Timestamp → Type 0
Timely DistantPast = Unit {0}
Timely (Exact i) = i ≤ 4000000000000000000
Timely DistantFuture = Unit {0}

pub record Steady (e : Estimator) : Type 0 where
  pub start : Timely e.recovery.recovering_after_loss_timestamp
  pub span : e.last_hold_info.duration.nanos ≤ 60000000000

-- the rates of an estimator; the current one is set from outside, and minus infinity at first. The first limit of a window is above 10^15
pub record Rates (e : Estimator) : Type 0 where
  pub current : T (finite (Increase.current e).bps) → LimitedRate (Increase.current e)
  pub hold : NotNegativeRate e.last_hold_info.rate
  pub limit : NotNegativeRate e.recovery.bandwidth_limit_in_current_window

-- of a hold and of a window
record SoundHold (h : HoldInfo) : Type 0 where
  span : h.duration.nanos ≤ 60000000000
  rate : NotNegativeRate h.rate

record SoundRecovery (w : Recovery) : Type 0 where
  start : Timely w.recovering_after_loss_timestamp
  limit : NotNegativeRate w.bandwidth_limit_in_current_window

-- and of an estimator after a report
pub record Sound (e : Estimator) : Type 0 where
  pub steady : Steady e
  pub rates : Rates e
  pub estimate : LimitedRate (Increase.current e)

-- ---- answers that are not refused

abbrev TakenRate : Result Bitrate Refusal → Type 0
TakenRate a = Gives a LimitedRate

abbrev TakenHold : Result HoldInfo Refusal → Type 0
TakenHold a = Gives a SoundHold

abbrev TakenRecovery : Result Recovery Refusal → Type 0
TakenRecovery a = Gives a SoundRecovery

abbrev pub Taken : Result Estimator Refusal → Type 0
Taken a = Gives a Sound

plus_taken : (t : Timestamp) (d : Duration) → Timely t → d.nanos ≤ 60000000000 → (end : Timestamp) × (plus t (Positive d) ≡ Ok end)
unfolding plus fitted
plus_taken DistantPast d p q = (DistantPast, refl)
plus_taken (Exact i) d p q = (Exact (i + d.nanos), grind (arith, nat_tests))
plus_taken DistantFuture d p q = (DistantFuture, refl)

least_not_negative : NotNegativeRate congestion_controller_min_bitrate
least_not_negative = record { holds = of_bits-fits binary64 _; above = unfold of_bits in tt }

one_finite : T (finite (Rate.nearest 1).bps)
one_finite = unfold of_int in tt

-- a window's limit that bounds the best rate is below it
under_best : (w : Recovery) (best : Bitrate) (end t : Timestamp) → Recovering.is_above_limit w best end t ≡ true
    → lt w.bandwidth_limit_in_current_window.bps best.bps ≡ true
unfolding Recovering.is_above_limit
under_best w best end t h = grind arith

-- ---- each step, at a rate that is not negative and at most 10^15
module _ (best : Bitrate) (n : LimitedRate best) (t : Timestamp) where
  module _ (w : Recovery) (s : Timely w.recovering_after_loss_timestamp) (l : NotNegativeRate w.bandwidth_limit_in_current_window) where
    end_taken : (end : Timestamp) × (Recovering.window_end w ≡ Ok end)
    unfolding Recovering.window_end
    end_taken = plus_taken w.recovering_after_loss_timestamp delayed_increase_window s (lit≤ tt)

    bounded_taken : TakenRate (Recovering.bounded w best t)
    unfolding Recovering.bounded
    bounded_taken =
        let end = end_taken.0 in
        let limited = tested LimitedRate (Recovering.is_above_limit w best end t) (λ h. below_limited best _ n l (under_best w best end t h)) (λ h. n) in
        rw end_taken.1 (gives LimitedRate _ limited)

    opened_sound : Timely t → SoundRecovery (Recovering.opened best t)
    unfolding Recovering.opened Rate.larger
    opened_sound h = record { start = h; limit = maximum_not_negative _ least_not_negative (times_holds best _) }

    renewed_taken : (state : LossControllerState) → Timely t → TakenRecovery (Recovering.renewed w state best t)
    unfolding Recovering.renewed
    renewed_taken state h =
        let kept : SoundRecovery w = record { start = s; limit = l } in
        let over = Recovering.is_over w end_taken.0 t in
        rw end_taken.1
        (either TakenRecovery (is_limited_due_to_loss state) _ _
        (gives SoundRecovery _ (either SoundRecovery over (Recovering.opened best t) w (opened_sound h) kept))
        (gives SoundRecovery w kept))

  entered_taken : (h : HoldInfo) → h.duration.nanos ≤ 60000000000 → Timely t → TakenHold (Hold.entered h best t)
  unfolding Hold.entered
  entered_taken h l p =
      let end = plus_taken t h.duration p l in
      rw end.1 (gives SoundHold _ (record { span = doubled_short h.duration; rate = n.forward }))

module _ (e : Estimator) (s : Steady e) (k : Rates e) (c : LimitedRate (Increase.current e)) where
  ramped_rate : (best acknowledged : Bitrate) → LimitedRate best → LimitedRate (Increase.ramped_up e best acknowledged)
  unfolding Increase.ramped_up Increase.within_rampup
  ramped_rate best acknowledged n =
      let ramped = Increase.within_rampup e best acknowledged in
      let most = Rate.times acknowledged (Increase.rampup_factor e.last_hold_info acknowledged) in
      either LimitedRate (is_decreasing e.state && eq ramped.bps (Increase.current e).bps) _ ramped
      (plus_limited (Increase.current e) (Rate.nearest 1) (limited_finite _ c) c.forward one_finite (nearest_not_negative 1))
      (larger_limited _ _ c (smaller_holds best most n.forward.holds (times_holds acknowledged _)) (smaller_within best most n))

  limited_taken : (best : Bitrate) (r : Report) → LimitedRate best → TakenRate (Increase.increase_limited_due_to_loss e best r)
  unfolding Increase.increase_limited_due_to_loss
  limited_taken best r n =
      let within = bounded_taken best n r.last_send_time e.recovery s.start k.limit in
      let rises = Increase.is_estimate_increasing_when_loss_limited e within.value && finite r.acknowledged_bitrate.bps in
      rw within.is
      (gives LimitedRate _
      (either LimitedRate rises _ within.value (ramped_rate within.value r.acknowledged_bitrate within.holds) within.holds))

  module _ (best : ChannelParameters) (n : LimitedRate best.loss_limited_bandwidth) (r : Report) where
    abbrev rate : Bitrate
    rate = best.loss_limited_bandwidth

    unraised_rate : (ratio : Float) → LimitedRate (Increase.not_increased_above_inherent_loss e best ratio)
    unfolding Increase.not_increased_above_inherent_loss
    unraised_rate ratio = either LimitedRate (lt best.inherent_loss ratio && lt (Increase.current e).bps rate.bps) _ _ c n

    increase_taken : TakenRate (Increase.increase_limited e best r)
    unfolding Increase.increase_limited
    increase_taken =
        let kept = unraised_rate r.average_reported_loss_ratio in
        either TakenRate (is_limited_due_to_loss e.state) _ _ (limited_taken _ r kept) (gives LimitedRate _ kept)

    held_sound : Sound (Update.held e best)
    unfolding Update.held
    held_sound =
        let held = smaller_limited rate _ n k.hold in
        record {
          steady = record { start = s.start; span = s.span };
          rates = record { current = λ f. held; hold = k.hold; limit = k.limit };
          estimate = held;
        }

    module _ (h : Timely r.last_send_time) where
      hold_taken : (state : LossControllerState) → TakenHold (Update.new_hold_info e state rate r.last_send_time)
      unfolding Update.new_hold_info
      hold_taken Increasing = gives SoundHold _ (record { span = s.span; rate = k.hold })
      hold_taken Decreasing =
          either TakenHold (is_decreasing e.state) _ _ (gives SoundHold _ (record { span = s.span; rate = k.hold }))
          (entered_taken rate n r.last_send_time e.last_hold_info s.span h)
      hold_taken DelayBased = gives SoundHold _ (record { span = lit≤ tt; rate = inf_not_negative })

      new_taken : Taken (Update.with_new_state e best r)
      unfolding Update.with_new_state
      new_taken =
          let state = Update.new_state e rate r.delay_based_estimate in
          let hold = hold_taken state in
          let window = renewed_taken rate n r.last_send_time e.recovery s.start k.limit state h in
          rw (hold.is, window.is)
          (gives Sound _
          (record {
            steady = record { start = window.holds.start; span = hold.holds.span };
            rates = record { current = λ f. n; hold = hold.holds.rate; limit = window.holds.limit };
            estimate = n;
          }))

      decided_taken : Taken (Update.decided e best r)
      unfolding Update.decided
      decided_taken = either Taken (Update.is_in_hold e rate r) _ _ (gives Sound _ held_sound) new_taken

  updated_taken : (best : ChannelParameters) (r : Report) → LimitedRate best.loss_limited_bandwidth → Timely r.last_send_time
      → Taken (Update.updated e best r)
  unfolding Update.updated
  updated_taken best r n h =
      let limited = increase_taken best n r in
      rw limited.is (decided_taken _ limited.holds r h)

-- ---- the whole

-- a fresh estimator, whose current rate is minus infinity
pub fresh_steady : Steady Update.initial
fresh_steady = record { start = tt; span = lit≤ tt }

pub fresh_rates : Rates Update.initial
fresh_rates = record { current = λ f. absurd f; hold = inf_not_negative; limit = nearest_not_negative 18446744073709551615 }

-- where the current rate is finite, and the chosen one not negative and at most 10^15, a report is taken
module _ (e : Estimator) (best : ChannelParameters) (r : Report) (s : Steady e) (k : Rates e) (f : T (finite (Increase.current e).bps))
    (n : LimitedRate best.loss_limited_bandwidth) (h : Timely r.last_send_time) where
  pub not_refused : Taken (Update.applied e best r)
  unfolding Update.applied Update.with_reduction_noted
  not_refused =
      let c = k.current f in
      either (λ (e : Estimator). Taken (Update.updated e best r)) (lt best.loss_limited_bandwidth.bps (Increase.current e).bps) _ e
      (updated_taken _ (record { start = s.start; span = s.span }) (record { current = k.current; hold = k.hold; limit = k.limit }) c best r n h)
      (updated_taken e s k c best r n h)

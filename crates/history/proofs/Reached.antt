-- What every list of calls leaves: a controller tied to the history, each part of it with what the steps that might refuse rely on. With it the steps
-- after a complete observation are not refused. Assumes nothing.
use Rattle.std.proofs.Common.{◌≡◌, ℕ, ◌*◌, ◌^◌, ◌≤◌, Bool, true, false, Option, Some, None, IfSome, option_map, Result, Ok, IfOk, T, rules}
use Rattle.std.specs.Bool.{then_some}
use lib.Ieee.Bits.{of_bits-fits}
use lib.Ieee.Fits.{inf-fits}
use lib.Ieee.Scale.{finite}
use Rattle.refusal.specs.declared.Refusal.{Refusal}
use Rattle.refusal.proofs.Gives.{Gives}
use Rattle.float.specs.Rust.{sign_bit}
use Rattle.std.specs.List.{All}
use Rattle.float.proofs.Extremes.{minimum_by}
use Rattle.float.proofs.NotNegative.{Holds, inf_not_negative}
use Rattle.float.proofs.Refusal.{either}
use Rattle.bandwidth.specs.Rate as Rate
use Rattle.bandwidth.specs.declared.Bitrate.{Bitrate}
use Rattle.bandwidth.proofs.NotNegativeRate.{HoldsRate, NotNegativeRate}
use Rattle.bandwidth.proofs.Limited.{LimitedRate}
use Rattle.likelihood.proofs.Judged.{SentRow}
use Rattle.packets.specs.declared.PacketResultsSummary.{PacketResultsSummary}
use Rattle.observation.specs.Ratio as Ratio
use Rattle.observation.specs.Rows as Rows
use Rattle.observation.specs.Window as Window
use Rattle.observation.specs.declared.Added.{Added}
use Rattle.observation.specs.declared.Observations.{Observations}
use Rattle.observation.proofs.AfterReport.{added_by}
use Rattle.observation.proofs.NotNegativeLimit.{limit_not_negative}
use Rattle.observation.proofs.Sent.{AllSent, cleared_sent, added_sent, rows_sent}
use Rattle.candidates.specs.Bound as Bound
use Rattle.candidates.proofs.Chosen.{chosen}
use Rattle.candidates.proofs.Offered.{bound_holds}
use Rattle.estimator.specs.State.{is_limited_due_to_loss}
use Rattle.estimator.specs.declared.Estimator.{Estimator}
use Rattle.estimator.proofs.Steady.{Timely, Steady, Rates, Taken, fresh_steady, fresh_rates, not_refused}
use Rattle.loss_controller.specs.Controller.{initial}
use Rattle.loss_controller.specs.Setters as Setters
use Rattle.loss_controller.specs.Report as Report
use Rattle.loss_controller.specs.declared.Inputs.{Inputs}
use Rattle.loss_controller.specs.declared.LossController.{LossController}
use Rattle.loss_controller.specs.Setters.{rate_of, check_rate, check_capacity}
use Rattle.history.specs.History.{History, fresh}
use Rattle.history.proofs.Tied.{Tied, reset_tied}
use Rattle.history.proofs.Weighed.{Windowed, ratio_of, ceiling_of, readable, ratio_taken}

-- ---- the rates that calls hand over

-- a float of binary64, where it is finite not negative and at most 10^15
pub record TakenRate (r : Bitrate) : Type 0 where
  pub holds : HoldsRate r
  pub limited : T (finite r.bps) → LimitedRate r

-- what code 2 takes
pub rate_taken : (n : ℕ) → check_rate (rate_of n) ≡ Ok tt → TakenRate (rate_of n)
unfolding check_rate sign_bit
rate_taken n e = search (rules, of_bits-fits)

pub capacity_taken : (n : Option ℕ) → check_capacity (option_map rate_of n) ≡ Ok tt → IfSome (option_map rate_of n) TakenRate
unfolding check_capacity
capacity_taken None e = tt
capacity_taken (Some n) e = rate_taken n e

-- ---- what is kept

pub record SoundObservations (o : Observations) : Type 0 where
  -- the observations' rates are floats of binary64
  pub sent : AllSent o
  -- times are at most 4×10^18 ns
  pub timely : Timely o.last_send_time_most_recent_observation

pub record SoundEstimator (e : Estimator) : Type 0 where
  -- the estimate, where it is finite, the hold's rate and the window's limit are not negative, and the estimate is at most 10^15
  pub rates : Rates e
  -- the window's start is such a time, and the hold lasts 60 s at most
  pub steady : Steady e

pub record SoundInputs (i : Inputs) : Type 0 where
  pub delay : TakenRate i.delay_based_estimate
  pub acknowledged : TakenRate i.acknowledged_bitrate
  pub capacity : IfSome i.link_capacity_estimate TakenRate

-- the observations are tied to the history, ALR is on in both or off in both, and each part is sound
pub record Reached (c : LossController) (h : History) : Type 0 where
  pub tied : Tied c.observations h
  pub on : Setters.is_in_alr c ≡ h.on
  pub observations : SoundObservations c.observations
  pub estimator : SoundEstimator c.estimator
  pub inputs : SoundInputs c.inputs

-- cleared observations are sound
pub cleared_sound : (use_bytes : Bool) (count : ℕ) → SoundObservations (Window.cleared use_bytes count)
unfolding Window.cleared
cleared_sound use_bytes count = search (rules, cleared_sent)

-- and what a report leaves is
pub added_sound : (o : Observations) (s : PacketResultsSummary) → SoundObservations o → s.last_send_time ≤ 4 * 10 ^ 18
    → IfOk (Window.added o s) (λ (a : Added). SoundObservations a.observations)
unfolding Window.with_ceiling Window.stored Window.with_partial Window.reference
added_sound o s k early =
    let timely = λ (r : Result Added Refusal). IfOk r (λ (a : Added). Timely a.observations.last_send_time_most_recent_observation) in
    search (rules, added_sent o s k.sent, added_by o s timely)

pub initial_reached : (use_bytes : Bool) → Reached (initial use_bytes) fresh
initial_reached use_bytes = search (rules, reset_tied use_bytes 0 false, cleared_sound use_bytes 0, fresh_rates, fresh_steady, inf-fits)

-- ---- the steps after a complete observation

-- whatever ceiling is cached
pub ceiling_not_negative : (o : Observations) (h : History) → Tied o h → NotNegativeRate (Ratio.cached o.cached_instant_upper_bound)
unfolding Ratio.valid_or_max
ceiling_not_negative o h t =
    rw t.ceiling (either NotNegativeRate (finite (ceiling_of o).bps) (ceiling_of o) _ (limit_not_negative _) inf_not_negative)

capacity_holds : (on : Bool) (link : Option Bitrate) → IfSome link TakenRate → Holds (Bound.capacity on link).bps
unfolding Bound.capacity Bound.at_most Rate.smaller
capacity_holds on link t = search (rules, inf-fits, minimum_by Holds)

limit_holds : (limited : Bool) (limit : Bitrate) → HoldsRate limit → IfSome (then_some limited limit) HoldsRate
limit_holds true limit h = h
limit_holds false limit h = tt

rows_taken : (o : Observations) (h : History) → Windowed o h → AllSent o → Gives (Rows.rows o) (All SentRow)
unfolding Rows.rows
rows_taken o h w sent = search (rules, readable o h w, rows_sent o sent)

pub updated_taken : (c : LossController) (h : History) → Reached c h → T (Report.has_valid_estimate c) → Taken (Report.updated_estimator c)
unfolding Report.has_valid_estimate Report.updated_estimator Report.bounds Report.report
updated_taken c h r f =
    let o = c.observations in
    let e = c.estimator in
    let b = Report.bounds c in
    let w = r.tied.windowed in
    let i = r.inputs in
    let k = r.estimator in
    let rows = rows_taken o h w r.observations.sent in
    let capacity = capacity_holds (Setters.is_in_alr c) c.inputs.link_capacity_estimate i.capacity in
    let fit = bound_holds b capacity (limit_holds (is_limited_due_to_loss e.state) e.recovery.bandwidth_limit_in_current_window k.rates.limit.holds) (ceiling_not_negative o h r.tied).holds i.delay.holds in
    let choice = chosen o.use_byte_loss_ratio e.current_estimate b rows.value (ratio_of o) (k.rates.current f) i.delay.limited i.acknowledged.limited fit rows.holds in
    rw (rows.is, ratio_taken o h w, choice.1) (not_refused e choice.0 (Report.report c (ratio_of o)) k.steady k.rates f choice.2 r.observations.timely)

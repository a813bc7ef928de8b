-- Worked examples of the definitions in specs/, which antt computes; the answers are those of the Rust. They test the definitions; no proof
-- cites them.
use Rattle.std.specs.Prelude.{ℕ, ◌^◌, ◌-◌, ◌≡◌, refl, List, [], ◌∷◌, map, Result, Err}
use Rattle.std.specs.Result.{result_unwrap_or}
use Rattle.std.specs.Float.{binary64}
use Rattle.std.specs.Float.Ieee.{add, div, eq, is_nan, le, lt, mul, of_bits, of_int, to_bits}
use Rattle.float.specs.Rounded.{bits}
use Rattle.float.specs.Rust.{minimum, maximum}
use Rattle.refusal.specs.declared.Refusal.{Refusal}
use Rattle.refusal.specs.declared.Refusal.TheVariants.{Arithmetic}
use Rattle.duration.specs.Seconds.{seconds, nearest_nanos}
use Rattle.bandwidth.specs.Rate as Rate
use Rattle.duration.specs.Nanos as Nanos
use Rattle.time.specs.Time as Time
use Rattle.time.specs.declared.Timestamp.{Timestamp}
use Rattle.time.specs.declared.Timestamp.TheVariants.{DistantPast, Exact, DistantFuture}
use Rattle.estimator.specs.State.{number}
use Rattle.estimator.specs.Hold as Hold
use Rattle.estimator.specs.Recovery as Recovering
use Rattle.estimator.specs.Increase as Increase
use Rattle.estimator.specs.Update as Update
use Rattle.estimator.specs.declared.LossControllerState.TheVariants.{Decreasing, DelayBased}
use Rattle.estimator.specs.declared.Estimator.{Estimator}

-- the next span of a hold: the nearest ns of twice its seconds, 60 s from 30 s on, however long it is
doubled_examples :
    map (λ n. (Hold.doubled (record { nanos = n })).nanos) (300000000 ∷ 1 ∷ 123456789 ∷ 29999999999 ∷ 30000000000 ∷ 18446744073709551615 ∷ []) ≡
    600000000 ∷ 2 ∷ 246913578 ∷ 59999999998 ∷ 60000000000 ∷ 60000000000 ∷ []
unfolding add div le lt mul of_bits of_int seconds nearest_nanos Hold.twice Hold.doubled
doubled_examples = refl

-- a time in ns, DistantPast as 0
nanos : Timestamp → ℕ
nanos DistantPast = 0
nanos (Exact i) = i
nanos DistantFuture = 1

-- state, rate, hold (end, span, rate), last reduction, window (start, limit); rates as their bits
view : Estimator → List ℕ
unfolding nanos
view e =
    number e.state
    ∷ to_bits binary64 (Increase.current e).bps
    ∷ nanos e.last_hold_info.timestamp
    ∷ e.last_hold_info.duration.nanos
    ∷ to_bits binary64 e.last_hold_info.rate.bps
    ∷ nanos e.last_time_estimate_reduced
    ∷ nanos e.recovery.recovering_after_loss_timestamp
    ∷ to_bits binary64 e.recovery.bandwidth_limit_in_current_window.bps
    ∷ []

-- one report: the best candidate's rate, at inherent loss 0.02, the ratio, the acknowledged rate and the delay estimate by their bits, and the time
answer : ℕ → ℕ → ℕ → ℕ → ℕ → Estimator → Result Estimator Refusal
answer best ratio acknowledged delay t e =
    Update.applied e (record { inherent_loss = bits 0x3F947AE147AE147B; loss_limited_bandwidth = Rate.rate (bits best) })
    (record {
      average_reported_loss_ratio = bits ratio;
      acknowledged_bitrate = Rate.rate (bits acknowledged);
      delay_based_estimate = Rate.rate (bits delay);
      last_send_time = Exact t;
    })

report : ℕ → ℕ → ℕ → ℕ → ℕ → Estimator → Estimator
unfolding answer
report best ratio acknowledged delay t e = result_unwrap_or (answer best ratio acknowledged delay t e) e

-- a fresh estimator at 600,000 bit/s
started : Estimator
started =
    record {
      state = DelayBased;
      current_estimate = record { inherent_loss = bits 0x3F847AE147AE147B; loss_limited_bandwidth = Rate.rate (bits 0x41224F8000000000) };
      last_hold_info = Hold.initial;
      last_time_estimate_reduced = DistantPast;
      recovery = Recovering.initial;
    }

run : Estimator → List (Estimator → Estimator) → List (List ℕ)
unfolding view
run e [] = []
run e (f ∷ fs) = view (f e) ∷ run (f e) fs

-- 570,000 bit/s enter Decreasing, the hold and a window; the hold caps 580,000; at its end, and above the inherent loss, nothing rises; 1,000,000 with
-- 400,000 acknowledged are 1 bit/s more, Increasing and a new window; its limit bounds 2,000,000; 500,000 enter the next hold; 900,000 are above the
-- delay estimate, so that DelayBased resets the hold
run_examples :
    run started
    (report 0x4121652000000000 0x3FB999999999999A 0x411E848000000000 0x412E848000000000 1000000000
    ∷ report 0x4121B34000000000 0x3F847AE147AE147B 0x411E848000000000 0x412E848000000000 1250000000
    ∷ report 0x4121B34000000000 0x3F9EB851EB851EB8 0x411E848000000000 0x412E848000000000 1300000000
    ∷ report 0x412E848000000000 0x3F847AE147AE147B 0x41186A0000000000 0x412E848000000000 1600000000
    ∷ report 0x413E848000000000 0x3F847AE147AE147B 0x7FF0000000000000 0x412E848000000000 1850000000
    ∷ report 0x411E848000000000 0x3F847AE147AE147B 0x41186A0000000000 0x412E848000000000 2200000000
    ∷ report 0x412B774000000000 0x3F847AE147AE147B 0x41286A0000000000 0x41286A0000000000 3000000000
    ∷ []) ≡
    (2 ∷ 0x4121652000000000 ∷ 1300000000 ∷ 600000000 ∷ 0x4121652000000000 ∷ 1000000000 ∷ 1000000000 ∷ 0x41269D1000000000 ∷ [])
    ∷ (2 ∷ 0x4121652000000000 ∷ 1300000000 ∷ 600000000 ∷ 0x4121652000000000 ∷ 1000000000 ∷ 1000000000 ∷ 0x41269D1000000000 ∷ [])
    ∷ (2 ∷ 0x4121652000000000 ∷ 1300000000 ∷ 600000000 ∷ 0x4121652000000000 ∷ 1000000000 ∷ 1000000000 ∷ 0x41269D1000000000 ∷ [])
    ∷ (1 ∷ 0x4121652200000000 ∷ 1300000000 ∷ 600000000 ∷ 0x4121652000000000 ∷ 1000000000 ∷ 1600000000 ∷ 0x41269D129999999A ∷ [])
    ∷ (1 ∷ 0x41269D129999999A ∷ 1300000000 ∷ 600000000 ∷ 0x4121652000000000 ∷ 1000000000 ∷ 1600000000 ∷ 0x41269D129999999A ∷ [])
    ∷ (2 ∷ 0x411E848000000000 ∷ 2800000000 ∷ 1200000000 ∷ 0x411E848000000000 ∷ 2200000000 ∷ 2200000000 ∷ 0x4123D62000000000 ∷ [])
    ∷ (0 ∷ 0x412B774000000000 ∷ 0 ∷ 300000000 ∷ 0x7FF0000000000000 ∷ 2200000000 ∷ 2200000000 ∷ 0x4123D62000000000 ∷ [])
    ∷ []
unfolding add div eq is_nan le lt mul of_bits of_int to_bits minimum maximum seconds nearest_nanos Rate.larger Rate.smaller
    Rate.limited Rate.times Rate.plus Nanos.fitted Time.plus Time.order Hold.twice Hold.doubled Hold.entered Recovering.window_end Recovering.is_above_limit
    Recovering.bounded Recovering.is_over Recovering.opened Recovering.renewed Increase.not_increased_above_inherent_loss
    Increase.is_estimate_increasing_when_loss_limited Increase.rampup_factor Increase.within_rampup Increase.ramped_up Increase.increase_limited_due_to_loss
    Increase.increase_limited Update.with_reduction_noted Update.is_in_hold Update.held Update.is_limiting Update.new_state Update.new_hold_info
    Update.with_new_state Update.decided Update.updated Update.applied nanos view report started run
run_examples = refl

-- Decreasing at this rate, with no hold and no window
decreasing : ℕ → Estimator
decreasing rate =
    record {
      state = Decreasing;
      current_estimate = record { inherent_loss = bits 0x3F847AE147AE147B; loss_limited_bandwidth = Rate.rate (bits rate) };
      last_hold_info = Hold.initial;
      last_time_estimate_reduced = DistantPast;
      recovery = Recovering.initial;
    }

-- the limit of 10^15 (Q-5), which 1.02 times the rate is cut to: at it nothing rises, so that Decreasing stays; from 0.5 below it, with 1 bit/s
-- acknowledged, 1 bit/s more is cut to it, and is an increase. The limit of the window that opens, 1.3 times the rate, is cut too
limit_examples :
    view (report 0x430C6BF526340000 0 0x3FF0000000000000 0x7FF0000000000000 1000000000 (decreasing 0x430C6BF526340000)) ≡
    2 ∷ 0x430C6BF526340000 ∷ 0 ∷ 300000000 ∷ 0x7FF0000000000000 ∷ 0 ∷ 1000000000 ∷ 0x430C6BF526340000 ∷ []
    × view (report 0x430C6BF526340000 0 0x3FF0000000000000 0x7FF0000000000000 1000000000 (decreasing 0x430C6BF52633FFFC)) ≡
    1 ∷ 0x430C6BF526340000 ∷ 0 ∷ 300000000 ∷ 0x7FF0000000000000 ∷ 0 ∷ 1000000000 ∷ 0x430C6BF526340000 ∷ []
unfolding add div eq is_nan le lt mul of_bits of_int to_bits minimum maximum seconds Rate.larger Rate.smaller
    Rate.limited Rate.times Rate.plus Nanos.fitted Time.plus Time.order Recovering.window_end Recovering.is_above_limit
    Recovering.bounded Recovering.is_over Recovering.opened Recovering.renewed Increase.not_increased_above_inherent_loss
    Increase.is_estimate_increasing_when_loss_limited Increase.rampup_factor Increase.within_rampup Increase.ramped_up Increase.increase_limited_due_to_loss
    Increase.increase_limited Update.with_reduction_noted Update.is_in_hold Update.is_limiting Update.new_state Update.new_hold_info
    Update.with_new_state Update.decided Update.updated Update.applied nanos view report decreasing
limit_examples = (refl, refl)

-- a hold entered at the last instant would end at none: refused, though the rate is a reduction
refused_example :
    answer 0x4121652000000000 0x3FB999999999999A 0x411E848000000000 0x412E848000000000 (2 ^ 64 - 1) started ≡ Err Arithmetic
unfolding add is_nan eq le lt mul of_bits maximum Rate.larger Rate.limited Rate.times Nanos.fitted Time.plus Time.order Hold.entered Recovering.window_end
    Recovering.is_over Recovering.opened Recovering.renewed Increase.not_increased_above_inherent_loss Increase.is_estimate_increasing_when_loss_limited
    Increase.increase_limited Update.with_reduction_noted Update.is_in_hold Update.is_limiting Update.new_state Update.new_hold_info Update.with_new_state
    Update.decided Update.updated Update.applied answer started
refused_example = refl

-- The recovery after loss: the window in which a limit bounds the estimate. Definitions only.
use Rattle.std.specs.Prelude.{Bool, not, ◌&&◌, ◌||◌, if◌then◌else◌, Result, Ok}
use Rattle.std.specs.Float.Ieee.{lt}
use Rattle.refusal.specs.Outcome.{and_then}
use Rattle.refusal.specs.declared.Refusal.{Refusal}
use Rattle.bandwidth.specs.Rate as Rate
use Rattle.bandwidth.specs.declared.Bitrate.{Bitrate}
use Rattle.std.specs.Ordering.{is_gt, is_lt}
use Rattle.time.specs.Time as Time
use Rattle.time.specs.declared.TimeDelta.TheVariants.{Positive}
use Rattle.time.specs.declared.Timestamp.{Timestamp}
use Rattle.time.specs.declared.Timestamp.TheVariants.{DistantPast}
use Rattle.config.specs.Config.{delayed_increase_window, congestion_controller_min_bitrate, conf_max_increase_factor}
use Rattle.estimator.specs.State.{is_limited_due_to_loss}
use Rattle.estimator.specs.declared.LossControllerState.{LossControllerState}
use Rattle.estimator.specs.declared.Recovery.{Recovery}

-- LossController::new; the limit is Bitrate::MAX
abbrev pub initial : Recovery
initial =
    record {
      recovering_after_loss_timestamp = DistantPast;
      bandwidth_limit_in_current_window = Rate.nearest 18446744073709551615;
    }

-- recovering_after_loss_timestamp + delayed_increase_window
unfoldable pub window_end : Recovery → Result Timestamp Refusal
window_end w = Time.plus w.recovering_after_loss_timestamp (Positive delayed_increase_window)

-- ---- before the choice of the state

-- the window still runs, and the best rate is above its limit
unfoldable pub is_above_limit : Recovery → Bitrate → Timestamp → Timestamp → Bool
is_above_limit w best end t =
    Time.is_exact w.recovering_after_loss_timestamp
    && (is_gt (Time.order end t) && lt w.bandwidth_limit_in_current_window.bps best.bps)

-- "Bound the estimate increase": the best rate is then the limit; refused where the window's end is
unfoldable pub bounded : Recovery → Bitrate → Timestamp → Result Bitrate Refusal
bounded w best t =
    and_then (window_end w) (λ end. Ok (if is_above_limit w best end t then w.bandwidth_limit_in_current_window else best))

-- ---- after it

-- no window has begun, or its end is past
unfoldable pub is_over : Recovery → Timestamp → Timestamp → Bool
is_over w end t = not (Time.is_exact w.recovering_after_loss_timestamp) || is_lt (Time.order end t)

-- a window from this time on, with the limit 1.3 times the rate, at least 5 kbps
unfoldable pub opened : Bitrate → Timestamp → Recovery
opened best t =
    record {
      recovering_after_loss_timestamp = t;
      bandwidth_limit_in_current_window =
          Rate.larger congestion_controller_min_bitrate (Rate.times best conf_max_increase_factor);
    }

-- in a state that loss limits, a new window where none runs; refused where its end is
unfoldable pub renewed : Recovery → LossControllerState → Bitrate → Timestamp → Result Recovery Refusal
renewed w state best t =
    if is_limited_due_to_loss state
    then and_then (window_end w) (λ end. Ok (if is_over w end t then opened best t else w))
    else Ok w

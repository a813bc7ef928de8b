-- The settings are the Rust's decimal numbers, each the nearest float, which antt computes. They test the definitions; no proof cites them.
use Rattle.std.specs.Prelude.{ℕ, ◌≡◌, refl, false, [], ◌∷◌, map, Float}
use Rattle.std.specs.Float.{binary64, inf}
use Rattle.std.specs.Float.Ieee.{of_bits, round}
use Rattle.bandwidth.specs.declared.Bitrate.{Bitrate}
use Rattle.config.specs.Config as Config

-- n ten-thousandths
ten_thousandths : ℕ → Float
ten_thousandths n = round binary64 false n 10000

-- 0.05
ceiling : Config.instant_upper_bound_loss_offset ≡ ten_thousandths 500
unfolding ten_thousandths round of_bits
ceiling = refl

-- 0.01, 0.001, 0.05, 0.75
inherent_loss_lem :
    Config.initial_inherent_loss_estimate ∷ Config.inherent_loss_lower_bound ∷ Config.inherent_loss_upper_bound_offset ∷ Config.newton_step_size ∷ [] ≡
    map ten_thousandths (100 ∷ 10 ∷ 500 ∷ 7500 ∷ [])
unfolding ten_thousandths round of_bits
inherent_loss_lem = refl

-- 0.0002, 0.02, 0.2, 0.002
bias :
    Config.higher_bandwidth_bias_factor ∷ Config.higher_log_bandwidth_bias_factor ∷ Config.threshold_of_high_bandwidth_preference
    ∷ Config.bandwidth_preference_smoothing_factor ∷ [] ≡
    map ten_thousandths (2 ∷ 200 ∷ 2000 ∷ 20 ∷ [])
unfolding ten_thousandths round of_bits
bias = refl

-- 1.02, 1.0, 0.95, 1.0
candidates :
    Config.candidate_factor_up ∷ Config.candidate_factor_same ∷ Config.candidate_factor_down ∷ Config.bandwidth_backoff_lower_bound_factor ∷ [] ≡
    map ten_thousandths (10200 ∷ 10000 ∷ 9500 ∷ 10000 ∷ [])
unfolding ten_thousandths round of_bits
candidates = refl

-- 1.3, 1.5, 1.2, 1.3, 2.0
increase :
    Config.conf_max_increase_factor ∷ Config.bandwidth_rampup_upper_bound_factor ∷ Config.bandwidth_rampup_upper_bound_factor_in_hold
    ∷ Config.bandwidth_rampup_hold_threshold ∷ Config.hold_duration_factor ∷ [] ≡
    map ten_thousandths (13000 ∷ 15000 ∷ 12000 ∷ 13000 ∷ 20000 ∷ [])
unfolding ten_thousandths round of_bits
increase = refl

-- the rates, in bit/s; the maximum is infinite
rates :
    map (λ (r : Bitrate). r.bps)
    (Config.instant_upper_bound_bandwidth_balance ∷ Config.inherent_loss_upper_bound_bandwidth_balance
    ∷ Config.congestion_controller_min_bitrate ∷ []) ≡
    map (λ n. round binary64 false n 1) (100000 ∷ 100000 ∷ 5000 ∷ [])
    × (Config.max_bitrate).bps ≡ inf false
unfolding round of_bits
rates = (refl, refl)

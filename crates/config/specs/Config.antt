-- The settings of the controller, under the names of the Rust's `Config` fields (crate `config`'s constants have the same values). Definitions only.
use Rattle.std.specs.Prelude.{ℕ, false, Float}
use Rattle.std.specs.Float.{inf}
use Rattle.float.specs.Rounded.{bits, one}
use Rattle.bandwidth.specs.declared.Bitrate.{Bitrate}
use Rattle.bandwidth.specs.Rate.{rate}
use Rattle.duration.specs.declared.Duration.{Duration}

-- ---- observations

abbrev pub observation_window_size : ℕ
observation_window_size = 15

abbrev pub observation_duration_lower_bound : Duration
observation_duration_lower_bound = record { nanos = 250000000 }

-- ---- the instant upper bound, which is the loss ceiling

abbrev pub instant_upper_bound_loss_offset : Float
instant_upper_bound_loss_offset = bits 0x3FA999999999999A

-- 100,000 bit/s
abbrev pub instant_upper_bound_bandwidth_balance : Bitrate
instant_upper_bound_bandwidth_balance = rate (bits 0x40F86A0000000000)

-- the Rust's `max_bitrate` is Bitrate::INFINITY: no rate is above it
abbrev pub max_bitrate : Bitrate
max_bitrate = rate (inf false)

-- ---- inherent loss

abbrev pub initial_inherent_loss_estimate : Float
initial_inherent_loss_estimate = bits 0x3F847AE147AE147B

abbrev pub inherent_loss_lower_bound : Float
inherent_loss_lower_bound = bits 0x3F50624DD2F1A9FC

abbrev pub inherent_loss_upper_bound_offset : Float
inherent_loss_upper_bound_offset = bits 0x3FA999999999999A

-- 100,000 bit/s
abbrev pub inherent_loss_upper_bound_bandwidth_balance : Bitrate
inherent_loss_upper_bound_bandwidth_balance = rate (bits 0x40F86A0000000000)

abbrev pub newton_step_size : Float
newton_step_size = bits 0x3FE8000000000000

-- ---- bias

abbrev pub higher_bandwidth_bias_factor : Float
higher_bandwidth_bias_factor = bits 0x3F2A36E2EB1C432D

abbrev pub higher_log_bandwidth_bias_factor : Float
higher_log_bandwidth_bias_factor = bits 0x3F947AE147AE147B

abbrev pub threshold_of_high_bandwidth_preference : Float
threshold_of_high_bandwidth_preference = bits 0x3FC999999999999A

abbrev pub bandwidth_preference_smoothing_factor : Float
bandwidth_preference_smoothing_factor = bits 0x3F60624DD2F1A9FC

-- ---- candidates

-- candidate_factor[0]
abbrev pub candidate_factor_up : Float
candidate_factor_up = bits 0x3FF051EB851EB852

-- candidate_factor[1]
abbrev pub candidate_factor_same : Float
candidate_factor_same = one

-- candidate_factor[2]
abbrev pub candidate_factor_down : Float
candidate_factor_down = bits 0x3FEE666666666666

abbrev pub bandwidth_backoff_lower_bound_factor : Float
bandwidth_backoff_lower_bound_factor = one

abbrev pub rampup_acceleration_maxout_time : Duration
rampup_acceleration_maxout_time = record { nanos = 60000000000 }

abbrev pub rampup_acceleration_max_factor : Duration
rampup_acceleration_max_factor = record { nanos = 60000000000 }

-- ---- recovery, hold and ramp-up

abbrev pub delayed_increase_window : Duration
delayed_increase_window = record { nanos = 300000000 }

-- 5,000 bit/s
abbrev pub congestion_controller_min_bitrate : Bitrate
congestion_controller_min_bitrate = rate (bits 0x40B3880000000000)

abbrev pub conf_max_increase_factor : Float
conf_max_increase_factor = bits 0x3FF4CCCCCCCCCCCD

abbrev pub bandwidth_rampup_upper_bound_factor : Float
bandwidth_rampup_upper_bound_factor = bits 0x3FF8000000000000

abbrev pub bandwidth_rampup_upper_bound_factor_in_hold : Float
bandwidth_rampup_upper_bound_factor_in_hold = bits 0x3FF3333333333333

abbrev pub bandwidth_rampup_hold_threshold : Float
bandwidth_rampup_hold_threshold = bits 0x3FF4CCCCCCCCCCCD

abbrev pub hold_duration_factor : Float
hold_duration_factor = bits 0x4000000000000000

abbrev pub init_hold_duration : Duration
init_hold_duration = record { nanos = 300000000 }

abbrev pub max_hold_duration : Duration
max_hold_duration = record { nanos = 60000000000 }

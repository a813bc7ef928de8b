-- The bias towards high rates. Definitions only.
use Rattle.std.specs.Prelude.{if◌then◌else◌, Float, Result, Ok}
use Rattle.std.specs.Float.Ieee.Scale.{finite}
use Rattle.refusal.specs.Outcome.{and_then}
use Rattle.refusal.specs.declared.Refusal.{Refusal}
use Rattle.float.specs.Rounded.{bits, one, ◌⊕◌, ◌⊖◌, ◌⊗◌, ◌⊘◌}
use Rattle.float.specs.Rust.{magnitude}
use Rattle.bandwidth.specs.declared.Bitrate.{Bitrate}
use Rattle.logarithm.specs.Ln.{logarithm}
use Rattle.config.specs.Config.{threshold_of_high_bandwidth_preference, bandwidth_preference_smoothing_factor, higher_bandwidth_bias_factor}
use Rattle.config.specs.Config.{higher_log_bandwidth_bias_factor}

-- "the bias factor is (factor × diff) / (0.002 + |diff|), diff = 0.2 - ratio, each operation rounded once (Q-9)"; adjust_bias_factor
unfoldable pub adjusted : Float → Float → Float
adjusted ratio factor =
    let diff = threshold_of_high_bandwidth_preference ⊖ ratio in
    (factor ⊗ diff) ⊘ (bandwidth_preference_smoothing_factor ⊕ magnitude diff)

-- 0.0 at a rate that is not finite; refused where 1 + rate has no logarithm (get_high_bandwidth_bias)
unfoldable pub bias : Bitrate → Float → Result Float Refusal
bias r ratio =
    if finite r.bps
    then and_then (logarithm (one ⊕ r.bps)) (λ ln.
    Ok (adjusted ratio higher_bandwidth_bias_factor ⊗ r.bps ⊕ adjusted ratio higher_log_bandwidth_bias_factor ⊗ ln))
    else Ok (bits 0)

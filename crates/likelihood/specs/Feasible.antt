-- The first parameters, and which inherent loss is feasible at a rate. Definitions only.
use Rattle.std.specs.Prelude.{true, if◌then◌else◌, Float}
use Rattle.std.specs.Float.{inf}
use Rattle.std.specs.Float.Ieee.{eq}
use Rattle.float.specs.Rounded.{one, ◌⊕◌, ◌⊘◌}
use Rattle.float.specs.Rust.{minimum, maximum}
use Rattle.bandwidth.specs.Rate.{rate, zero}
use Rattle.bandwidth.specs.declared.Bitrate.{Bitrate}
use Rattle.config.specs.Config.{initial_inherent_loss_estimate, inherent_loss_lower_bound, inherent_loss_upper_bound_offset, inherent_loss_upper_bound_bandwidth_balance}
use Rattle.likelihood.specs.declared.ChannelParameters.{ChannelParameters}

-- no rate yet, which is minus infinity (ChannelParameters::new)
abbrev pub initial : ChannelParameters
initial = record { inherent_loss = initial_inherent_loss_estimate; loss_limited_bandwidth = rate (inf true) }

-- min(1, 0.05 + 100,000/rate), or 1 for rate 0 ("One report, in order"; get_inherent_loss_upper_bound)
unfoldable pub upper_bound : Bitrate → Float
upper_bound r =
    if eq r.bps zero.bps
    then one
    else minimum (inherent_loss_upper_bound_offset ⊕ inherent_loss_upper_bound_bandwidth_balance.bps ⊘ r.bps) one

-- Feasible: at least 0.001, then at most the upper bound ("One report, in order"; get_feasible_inherent_loss)
unfoldable pub feasible : ChannelParameters → Float
feasible c = minimum (maximum c.inherent_loss inherent_loss_lower_bound) (upper_bound c.loss_limited_bandwidth)

-- The loss probability of an observation under a candidate: get_loss_probability. Definitions only.
use Rattle.std.specs.Prelude.{if◌then◌else◌, ◌&&◌, Float}
use Rattle.std.specs.Float.{float_clamp}
use Rattle.std.specs.Float.Ieee.{lt}
use Rattle.std.specs.Float.Ieee.Scale.{finite}
use Rattle.float.specs.Rounded.{bits, one, ◌⊕◌, ◌⊖◌, ◌⊗◌, ◌⊘◌}
use Rattle.bandwidth.specs.declared.Bitrate.{Bitrate}
use Rattle.likelihood.specs.declared.ChannelParameters.{ChannelParameters}
use Rattle.likelihood.specs.declared.Row.{Row}

-- a valid sending rate above a valid loss limited bandwidth adds (1 - inherent) × ((sending - limited) / sending)
unfoldable pub congested : Float → Bitrate → Bitrate → Float
congested inherent limited sending =
    if finite sending.bps && finite limited.bps && lt limited.bps sending.bps
    then inherent ⊕ (one ⊖ inherent) ⊗ ((sending.bps ⊖ limited.bps) ⊘ sending.bps)
    else inherent

-- 0.000001
abbrev pub least : Float
least = bits 0x3EB0C6F7A0B5ED8D

-- the inherent loss clamped to 0 and 1, and the whole to 0.000001 and 1 - 0.000001, a rounded difference; a NaN stays
unfoldable pub probability : Float → Bitrate → Bitrate → Float
probability inherent limited sending =
    float_clamp (congested (float_clamp inherent (bits 0) one) limited sending) least (one ⊖ least)

-- of a row under a candidate
abbrev pub row_probability : ChannelParameters → Row → Float
row_probability c row = probability c.inherent_loss c.loss_limited_bandwidth row.sending_rate

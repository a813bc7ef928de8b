-- The derivatives of the likelihood and Newton's step on the inherent loss. Definitions only.
use Rattle.std.specs.Prelude.{if◌then◌else◌, not, ◌||◌, List, Float}
use mathlib.Core.List.{foldl}
use Rattle.std.specs.Float.Ieee.{eq, is_nan}
use Rattle.float.specs.Rounded.{bits, one, ◌⊕◌, ◌⊖◌, ◌⊗◌, ◌⊘◌}
use Rattle.float.specs.Rust.{sign_bit}
use Rattle.logarithm.specs.Power.{power}
use Rattle.config.specs.Config.{newton_step_size}
use Rattle.likelihood.specs.Feasible.{feasible}
use Rattle.likelihood.specs.Probability.{row_probability}
use Rattle.likelihood.specs.declared.ChannelParameters.{ChannelParameters}
use Rattle.likelihood.specs.declared.Derivatives.{Derivatives}
use Rattle.likelihood.specs.declared.Row.{Row}

-- A second derivative that is zero, NaN or without a sign bit becomes -0.000001 ("Corners, file by file")
unfoldable pub safe : Float → Float
safe x = if not (sign_bit x) || eq x (bits 0) || is_nan x then bits 0xBEB0C6F7A0B5ED8D else x

-- a row's part in both sums, where it is initialized (get_derivatives)
unfoldable pub add_derivatives : ChannelParameters → Derivatives → Row → Derivatives
add_derivatives c d row =
    let p = row_probability c row in
    if row.is_initialized
    then (record {
      first = d.first ⊕ row.weight ⊗ (row.lost ⊘ p ⊖ row.received ⊘ (one ⊖ p));
      second = d.second ⊖ row.weight ⊗ (row.lost ⊘ power p 2 ⊕ row.received ⊘ power (one ⊖ p) 2);
    })
    else d

-- sums run in slot order, from 0.0 (get_derivatives)
unfoldable pub derivatives : List Row → ChannelParameters → Derivatives
derivatives rows c =
    let sums = foldl (add_derivatives c) (record { first = bits 0; second = bits 0 }) rows in
    record sums { second = safe sums.second }

-- One Newton step of 0.75, feasible again ("One report, in order"; newtons_method_update)
unfoldable pub newton : List Row → ChannelParameters → ChannelParameters
newton rows c =
    let d = derivatives rows c in
    let stepped = c.inherent_loss ⊖ newton_step_size ⊗ (d.first ⊘ d.second) in
    record c { inherent_loss = feasible (record c { inherent_loss = stepped }) }

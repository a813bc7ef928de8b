-- The loss ratio of a window and the ceiling that it sets, as the floats that the controller computes, each operation rounded once. Definitions only.
use Rattle.std.specs.Prelude.{ℕ, if◌then◌else◌, pos, Float}
use mathlib.Core.List.{List, foldl}
use Rattle.std.specs.Float.{binary64}
use Rattle.std.specs.Float.Ieee.{eq, of_int}
use Rattle.float.specs.Rounded.{◌⊕◌, ◌⊖◌, ◌⊗◌, ◌⊘◌, bits}
use Rattle.bandwidth.specs.Rate as Rate
use Rattle.config.specs.Config as Config
use Rattle.logarithm.specs.Power.{weight}
use Rattle.rounding.specs.Exact.{Measured}

-- ---- `average_reported_loss_ratio`
-- total += weight * size
abbrev pub add_weighted : (Measured → ℕ) → Float → Measured → Float
add_weighted size sum o = sum ⊕ weight o.age ⊗ of_int binary64 (pos (size o))

-- left to right from 0.0; "sums run in slot order", which is the order of the list
abbrev pub float_total : List Measured → Float
float_total os = foldl (add_weighted (λ (o : Measured). o.total)) (bits 0) os

abbrev pub float_lost : List Measured → Float
float_lost os = foldl (add_weighted (λ (o : Measured). o.lost)) (bits 0) os

-- 0.0 where the total is 0.0, else lost / total
unfoldable pub loss_ratio : List Measured → Float
loss_ratio os = if eq (float_total os) (bits 0) then bits 0 else float_lost os ⊘ float_total os

-- ---- `calculate_instant_upper_bound`
-- what a ratio above 0.05 sets, in bit/s
unfoldable pub loss_ceiling : Float → Float
loss_ceiling ratio = (Rate.over Config.instant_upper_bound_bandwidth_balance (ratio ⊖ Config.instant_upper_bound_loss_offset)).bps

-- Rates that are floats of binary64, and rates that are not negative. Assumes nothing.
use Rattle.std.proofs.Common.{ℕ}
use lib.Ieee.{Float, binary64, eq, of_int}
use lib.Ieee.Bits.{of_bits-fits}
use lib.Ieee.Fits.{div-fits}
use Rattle.float.specs.Rounded.{bits}
use Rattle.float.proofs.Extremes.{minimum_by}
use Rattle.float.proofs.NotNegative.{Holds, NotNegative, round_not_negative}
use Rattle.float.proofs.Refusal.{either}
use Rattle.bandwidth.specs.Rate.{nearest, smaller, over}
use Rattle.bandwidth.specs.declared.Bitrate.{Bitrate}

abbrev pub HoldsRate : Bitrate → Type 0
HoldsRate r = Holds r.bps

abbrev pub NotNegativeRate : Bitrate → Type 0
NotNegativeRate r = NotNegative r.bps

-- the smaller of two floats of binary64 is one
pub smaller_holds : (x y : Bitrate) → HoldsRate x → HoldsRate y → HoldsRate (smaller x y)
unfolding smaller
smaller_holds x y f g = minimum_by Holds x.bps y.bps (λ h. f) g

-- so is a rate over a number
pub over_holds : (r : Bitrate) (x : Float) → HoldsRate (over r x)
unfolding over
over_holds r x = either HoldsRate (eq x (bits 0)) _ _ (of_bits-fits binary64 0) (div-fits binary64 r.bps x)

-- a whole rate is not negative
pub nearest_not_negative : (n : ℕ) → NotNegativeRate (nearest n)
unfolding of_int
nearest_not_negative n = round_not_negative n 1

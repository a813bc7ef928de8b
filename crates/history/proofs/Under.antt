-- The smaller of a rate and a ceiling: finite with its sign clear, and under the ceiling where it is set. Assumes nothing.
use Rattle.std.proofs.Common.{arith, ℕ, ◌*◌, ◌≤◌, T, Float}
use lib.Ieee.{is_nan}
use Rattle.float.specs.Rust.{minimum}
use Rattle.rounding.specs.Plain.{plain}
use Rattle.rounding.proofs.Order.{under_of_not_lt}
use Rattle.rounding.proofs.Ceiling.{Capped, under_ceiling}
use Rattle.history.specs.Demand.{UnderLossCeiling}

-- where r is 1/20 or more, the smaller of a plain float and a ceiling that is set is under it
pub minimum_under : {k : Float} {l t : ℕ} → Capped k l t → t ≤ 20 * l → (y : Float) → T (plain y) → UnderLossCeiling (minimum y k) l t
unfolding minimum is_nan
minimum_under c more y p = grind (arith, under_ceiling, under_of_not_lt)

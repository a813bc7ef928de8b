-- The smaller and the larger of two floats are one of the two: what holds of both holds of them. A NaN in the first place is never taken.
-- Assumes nothing.
use Rattle.std.proofs.Common.{◌≡◌, false}
use lib.Ieee.{Float, is_nan, lt}
use Rattle.float.specs.Rust.{minimum, maximum}
use Rattle.float.proofs.Refusal.{either, tested}

module _ (P : Float → Type 0) (x y : Float) (p : is_nan x ≡ false → P x) (q : P y) where
  pub minimum_by : P (minimum x y)
  unfolding minimum
  minimum_by = tested P (is_nan x) (λ h. q) (λ h. either P (lt y x) y x q (p h))

  pub maximum_by : P (maximum x y)
  unfolding maximum
  maximum_by = tested P (is_nan x) (λ h. q) (λ h. either P (lt x y) y x q (p h))

-- Floats that are not NaN: what is rounded, and the sums and products that are. Assumes nothing.
use Rattle.std.proofs.Common.{rules, ◌≡◌, ℕ, zero, suc, ◌+◌, ◌-◌, ◌*◌, ◌^◌, Bool, false, ◌&&◌, T, ltb, ℤ, refl}
use mathlib.Core.Bool.{beq}
use lib.Ieee.{Float, inf, fin, binary64, low, odd, units, round, sum, add, mul, is_nan}
use lib.Ieee.Fits.{round_is}
use lib.Ieee.Scale.{finite}
use Rattle.float.specs.Rounded.{◌⊕◌, ◌⊗◌}
use Rattle.float.proofs.Refusal.{either}

abbrev pub NotNan : Float → Type 0
NotNan x = is_nan x ≡ false

-- what holds of the infinity and of the finite floats with the sign s holds of a rounding with that sign
module _ (P : Float → Type 0) (s : Bool) (i : P (inf s)) (f : (m : ℕ) (e : ℤ) → P (fin s m e)) where
  odd_by : (d q k l : ℕ) → P (odd d s q k l)
  unfolding odd
  odd_by d zero k l = f _ _
  odd_by d (suc q) k l = f _ _

  units_by : (q k : ℕ) → P (units binary64 s q k)
  unfolding units
  units_by q k = either P (ltb (q * 2 ^ k) _) _ (inf s) (odd_by 54 q k (low binary64)) i

  pub round_by : (a c : ℕ) → P (round binary64 s a c)
  round_by a c = rw round_is (units_by _ _)

round_not_nan : (s : Bool) (a c : ℕ) → NotNan (round binary64 s a c)
unfolding is_nan
round_not_nan s = round_by NotNan s refl (λ m e. refl)

sum_not_nan : (s : Bool) (a : ℕ) (t : Bool) (b c : ℕ) → NotNan (sum binary64 s a t b c)
unfolding sum
sum_not_nan s a t b c =
    either NotNan (beq s t) _ _ (round_not_nan s (a + b) c)
    (either NotNan (ltb a b) _ _ (round_not_nan t (b - a) c) (round_not_nan (s && ltb b a) (a - b) c))

-- a sum of a finite float and one that is not NaN
pub add_not_nan : (x y : Float) → T (finite x) → NotNan y → NotNan (x ⊕ y)
unfolding add is_nan
add_not_nan x y f n = search (rules, sum_not_nan)

-- a product of finite floats
pub mul_not_nan : (x y : Float) → T (finite x) → T (finite y) → NotNan (x ⊗ y)
unfolding mul
mul_not_nan x y f g = search (rules, round_not_nan)

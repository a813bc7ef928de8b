-- Floats that are not above a finite one with its sign clear: what is below such a float, and the smaller of it and any other. Assumes nothing.
use Rattle.std.proofs.Common.{rules, ◌≡◌, Bool, true, false, T, refl}
use Rattle.std.proofs.lemmas.Float.{lt_trans, T_from_true}
use lib.Ieee.{Float, is_nan, lt}
use lib.Ieee.Scale.{finite}
use Rattle.float.specs.Rust.{minimum}
use Rattle.float.proofs.NotNegative.{upward}
use Rattle.float.proofs.Refusal.{tested}

-- one with its sign clear is finite too
pub at_most_finite : (m x : Float) → T (finite m) → T (upward x) → lt m x ≡ false → T (finite x)
unfolding lt
at_most_finite m x f u h = search rules

-- what is below a float that m is not below
pub below_at_most : (m x y : Float) → T (finite m) → T (upward m) → lt y x ≡ true → lt m x ≡ false → lt m y ≡ false
below_at_most m x y f u l h = go (lt m y) refl
  where
    go : (b : Bool) → lt m y ≡ b → b ≡ false
    go false k = refl
    go true k = absurd (rw h at (lt_trans m y x (T_from_true (lt m y) k) (T_from_true (lt y x) l)))

-- the smaller of two of which the first is a number that m is not below
pub minimum_at_most : (m x y : Float) → T (finite m) → T (upward m) → is_nan x ≡ false → lt m x ≡ false → lt m (minimum x y) ≡ false
unfolding minimum
minimum_at_most m x y f u n h = rw n (tested (λ (z : Float). lt m z ≡ false) (lt y x) (λ l. below_at_most m x y f u l h) (λ l. h))

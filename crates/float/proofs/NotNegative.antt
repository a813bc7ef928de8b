-- Floats of binary64 that are not negative: finite with the sign clear, or plus infinity. Assumes nothing.
use Rattle.std.proofs.Common.{rules, ◌≡◌, ℕ, ◌+◌, ◌*◌, Bool, true, false, not, T}
use lib.Ieee.{Float, nan, inf, fin, binary64, up, down, round, sum, add, mul, fits, is_nan, lt}
use lib.Ieee.Fits.{inf-fits, round-fits, add-fits}
use lib.Ieee.Scale.{finite}
use Rattle.float.specs.Rounded.{◌⊕◌, ◌⊗◌}
use Rattle.float.specs.Rust.{maximum}
use Rattle.float.proofs.NotNan.{round_by}
use Rattle.float.proofs.Refusal.{tested}

-- the sign is clear
abbrev pub upward : Float → Bool
upward nan = false
upward (inf s) = not s
upward (fin s m e) = not s

-- a float of binary64
abbrev pub Holds : Float → Type 0
Holds x = T (fits binary64 x)

pub record NotNegative (x : Float) : Type 0 where
  pub holds : Holds x
  pub above : T (upward x)

-- plus infinity is not negative
pub inf_not_negative : NotNegative (inf false)
inf_not_negative = search (rules, inf-fits)

-- a float with the sign clear is no NaN
pub upward_not_nan : (x : Float) → T (upward x) → is_nan x ≡ false
unfolding is_nan
upward_not_nan x u = search rules

-- ---- the larger

-- what is above a float with the sign clear has it clear
pub above_upward : (x y : Float) → T (upward x) → lt x y ≡ true → T (upward y)
unfolding lt
above_upward x y u h = search rules

-- the larger of one that is not negative and any other float is not
pub maximum_not_negative : {x : Float} (y : Float) → NotNegative x → Holds y → NotNegative (maximum x y)
unfolding maximum
maximum_not_negative {x} y n f =
    rw (upward_not_nan x n.above) (tested NotNegative (lt x y) (λ l. record { holds = f; above = above_upward x y n.above l }) (λ l. n))

-- ---- what is rounded

-- a rounding with the sign clear has it clear
pub round_upward : (a c : ℕ) → T (upward (round binary64 false a c))
round_upward = round_by (λ (x : Float). T (upward x)) false tt (λ m e. tt)

pub round_not_negative : (a c : ℕ) → NotNegative (round binary64 false a c)
round_not_negative a c = search (rules, round-fits, round_upward)

pub add_upward : (x y : Float) → T (upward x) → T (upward y) → T (upward (x ⊕ y))
unfolding add sum
add_upward nan y u v = elim u [ ]
add_upward (inf s) y u v = search rules
add_upward (fin false m e) nan u v = elim v [ ]
add_upward (fin false m e) (inf t) u v = search rules
add_upward (fin false m e) (fin true n d) u v = elim v [ ]
add_upward (fin true m e) y u v = elim u [ ]
add_upward (fin false m e) (fin false n d) u v = round_upward (m * up e * down d + n * up d * down e) (down e * down d)

-- a sum of two that are not negative is not
pub add_not_negative : (x y : Float) → NotNegative x → NotNegative y → NotNegative (x ⊕ y)
add_not_negative x y n k = search (rules, add-fits, add_upward)

-- a product of two finite ones
pub mul_not_negative : (x y : Float) → T (finite x) → T (upward x) → T (finite y) → T (upward y) → NotNegative (x ⊗ y)
unfolding mul
mul_not_negative x y f u g v = search (rules, round_not_negative)

-- The loss ratio of a window in whole numbers, how near the floats have to come to it (document 01, "Demand 3 is stated in whole numbers"), and floats
-- that are at most 1. What is measured, bytes or packets, is not said here. Definitions only.
use Rattle.std.specs.Prelude.{ℕ, ◌+◌, ◌-◌, ◌*◌, ◌^◌, ◌≤◌, ◌<◌, List, [], ◌∷◌, T, Float}
use Rattle.std.specs.Float.Ieee.Positive.{num, den}
use Rattle.rounding.specs.Plain.{plain}

-- an observation of the window: its age, and by some measure its total and the lost part of it
pub record Measured : Type 0 where
  pub age : ℕ
  pub total : ℕ
  pub lost : ℕ

-- "the weight of an age is 9^age × 10^(14 - age)", of the ages 0 to 14 that a window has
abbrev pub exact_weight : ℕ → ℕ
exact_weight age = 9 ^ age * 10 ^ (14 - age)

-- "the sum of weight × lost bytes over that of weight × bytes": one such sum, of what `size` reads of each observation
unfoldable pub exact_sum : (Measured → ℕ) → List Measured → ℕ
exact_sum size [] = 0
exact_sum size (o ∷ os) = exact_weight o.age * size o + exact_sum size os

abbrev pub exact_total : List Measured → ℕ
exact_total os = exact_sum (λ (o : Measured). o.total) os

abbrev pub exact_lost : List Measured → ℕ
exact_lost os = exact_sum (λ (o : Measured). o.lost) os

-- ---- how near. "A finite float is its whole significand times a power of two": x is num x / den x
-- "within r/2^46 of r", and "by more than one part in 2^40"
abbrev pub ratio_part : ℕ
ratio_part = 2 ^ 46

abbrev pub ceiling_part : ℕ
ceiling_part = 2 ^ 40

-- x is within one part in `ratio_part` of r = l / t
pub record Close (x : Float) (l t : ℕ) : Type 0 where
  pub plainly : T (plain x)
  pub above : num x * t * ratio_part ≤ l * den x * ratio_part + l * den x
  pub below : l * den x * ratio_part ≤ num x * t * ratio_part + l * den x

-- x is finite with its sign clear, and at most 1
pub record AtMostOne (x : Float) : Type 0 where
  pub plainly : T (plain x)
  pub below : num x ≤ den x

-- a finite x with its sign clear exceeds 100,000 / (r - 1/20), which is 2,000,000 t / (20 l - t), by no more than one part in `ceiling_part`
abbrev pub UnderCeiling : Float → ℕ → ℕ → Type 0
UnderCeiling x l t = num x * (20 * l) * ceiling_part ≤ 2000000 * t * den x * (ceiling_part + 1) + num x * t * ceiling_part

-- ---- for the laws: the observations they speak of
-- an age that is "always below 15", a total that code 10 takes, and no more lost than there was
pub record Sound (o : Measured) : Type 0 where
  pub young : o.age < 15
  pub bounded : o.total ≤ 10 ^ 12
  pub part : o.lost ≤ o.total

-- The fifteen weights are 7 parts at most from (9 / 10) ^ age: one test, computed at every age. Assumes nothing.
use Rattle.std.proofs.Common.{◌≡◌, ℕ, ◌^◌, ◌<◌, Bool, true, refl}
use Rattle.std.proofs.lemmas.Bool.{agree_below, agree_below_at}
use Rattle.std.proofs.lemmas.Float.{T_from_true}
use lib.Ieee.{mul, of_bits}
use Rattle.logarithm.specs.Power.{weight}
use Rattle.rounding.proofs.Round.{Near}
use Rattle.rounding.proofs.Near.{near_test, near_of_test}

right : ℕ → Bool
unfolding near_test
right age = near_test 7 (weight age) (9 ^ age) (10 ^ age)

all_right : agree_below right (λ _. true) 15 ≡ true
unfolding right weight mul of_bits
all_right = refl

-- the weight of an age beside (9 / 10) ^ age
pub weight_near : (age : ℕ) → age < 15 → Near 7 (weight age) (9 ^ age) (10 ^ age)
unfolding right
weight_near age h =
    near_of_test 7 (weight age) (9 ^ age) (10 ^ age) (T_from_true (right age) (agree_below_at right (λ _. true) 15 age all_right h))

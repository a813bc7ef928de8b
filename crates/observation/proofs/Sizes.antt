-- Sizes that a float holds: an i64 holds them too, and so it is with their differences. Assumes nothing.
use Rattle.std.proofs.Common.{◌≡◌, ℕ, ◌^◌, true, pos, ◌-ℤ◌, Ok, arith, lt-ltb, leb-true}
use lib.Ieee.{binary64, in_float}
use Rattle.integer.specs.Fitted.{in_i64, fitted}
use Rattle.bandwidth.specs.Size.{size, minus}

pub held : (n : ℕ) → in_float binary64 (pos n) ≡ true → in_i64 (pos n) ≡ true
unfolding in_i64 in_float
held n h = lt-ltb n (2 ^ 63) (omega (arith, leb-true n (2 ^ 53) h))

pub difference_held : (a b : ℕ) → in_float binary64 (pos a) ≡ true → in_float binary64 (pos b) ≡ true
    → (minus (size (pos a)) (size (pos b)) ≡ Ok (size (pos a -ℤ pos b))) × (in_float binary64 (pos a -ℤ pos b) ≡ true)
unfolding fitted in_i64 in_float minus
difference_held a b h k = grind arith

-- Powers by document 01's steps, and the weights ("Logarithm and powers"). Definitions only.
use Rattle.std.specs.Prelude.{ℕ, zero, suc, ◌/◌, ◌%◌, Bool, true, false, if◌then◌else◌, ◌==◌, nat_lt, Float}
use Rattle.float.specs.Rounded.{bits, one, ◌⊗◌}

-- While n is not 0: if n is odd, answer × base; halve n; if n is not 0, square the base.
-- `done` says whether n is 0, an argument to match on. `turns` bounds their number; n is enough, since each turn halves n.
unfoldable pub power_steps : ℕ → Bool → Float → Float → ℕ → Float
power_steps zero done answer base n = answer
power_steps (suc turns) true answer base n = answer
power_steps (suc turns) false answer base n =
    let none = n / 2 == 0 in
    power_steps turns none (if n % 2 == 1 then answer ⊗ base else answer) (if none then base else base ⊗ base) (n / 2)

-- base to the power n: answer 1 at the start
unfoldable pub power : Float → ℕ → Float
unfolding power_steps
power base n = power_steps n (n == 0) one base n

abbrev pub ninetenths : Float
ninetenths = bits 0x3FECCCCCCCCCCCCD

-- The weight of an age is a power of 0.9. The window holds fifteen; any other age weighs nothing
unfoldable pub weight : ℕ → Float
unfolding power
weight age = if nat_lt age 15 then power ninetenths age else bits 0

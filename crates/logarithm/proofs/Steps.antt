-- The power steps from within: what is left of them leads to the whole power. Assumes nothing.
use Prim.Native.Nat.{ℕ, zero, suc, ◌/◌, ◌%◌, ◌≤◌}
use mathlib.Core.Path.{◌≡◌}
use mathlib.Core.Bool.{cond}
use native.Mathlib.Omega.{arith}
use borrow.Author.Tests.{eq-eqb, ne_eqb}
use lib.Dec.{eqb}
use lib.Ieee.{Float}
use Rattle.float.specs.Rounded.{◌⊗◌}
use Rattle.logarithm.specs.Power.{power_steps}

-- from these three the steps give the result, in turns enough
abbrev pub Leads : Float → Float → ℕ → Float → Type 0
Leads answer base n result = (turns : ℕ) × (n ≤ turns) × (power_steps turns (eqb n 0) answer base n ≡ result)

-- a turn, to answer' and base'
pub turn :
    (answer base result answer' base' : Float) (n : ℕ) → (n ≡ 0 → ⊥) →
    answer' ≡ cond (eqb (n % 2) 1) (answer ⊗ base) answer → base' ≡ cond (eqb (n / 2) 0) base (base ⊗ base) →
    Leads answer base n result → Leads answer' base' (n / 2) result
unfolding power_steps
turn answer base result answer' base' n h a b (zero, l, p) = absurd (h (omega arith))
turn answer base result answer' base' n h a b (suc turns, l, p) = (turns, omega arith, rw (a, b) (rw (ne_eqb n 0 h) at p))

pub done : (answer base result : Float) (n : ℕ) → n ≡ 0 → Leads answer base n result → answer ≡ result
unfolding power_steps
done answer base result n h (zero, l, p) = p
done answer base result n h (suc turns, l, p) = rw (eq-eqb n 0 h) at p

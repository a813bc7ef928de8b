-- `digit` meets its contract: what was subtracted, and what is left, are the number. Assumes nothing.
use native.Mathlib.Nat.{lt_of_mul-lt-mul_right}
use native.Mathlib.Omega.{arith}
use lib.Arith.{digits_div, digits_mod}
use Rattle.std.proofs.Common.{◌≡◌, ◌+◌, ◌*◌, ◌<◌, ℕ, sym}
use Rattle.call_line.proofs.digit.Goals as goal

below_ten : (value power rest all : ℕ) → all ≡ value * power + rest → all < 10 * power → value < 10
below_ten value power rest all e h = lt_of_mul-lt-mul_right power (omega arith)

pub overflow_add-value : goal.overflow_add-value
overflow_add-value c = omega (arith, below_ten c.loop-rest.value c.args.power c.loop-rest.rest c.args.rest c.loop-rest.invariant c.requires.1)

pub returns : goal.returns
returns c =
    let l = c.loop-rest in
    let b = below_ten l.value c.args.power l.rest c.args.rest l.invariant c.requires.1 in
    rw l.invariant (sym (digits_div l.value c.loop-rest-test.false), sym (digits_mod l.value c.loop-rest-test.false), omega arith)

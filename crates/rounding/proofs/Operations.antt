-- On finite floats with a clear sign, each operation of binary64 is one rounding of a fraction, and each test one of fractions. Assumes nothing.
use Rattle.std.proofs.Common.{rules}
use mathlib.Core.Path.{◌≡◌}
use mathlib.Core.Bool.{false}
use Prim.Native.Nat.{ℕ, ◌+◌, ◌-◌, ◌*◌, ◌<◌}
use native.Mathlib.Omega.{arith}
use borrow.Author.Tests.{le-ltb}
use lib.Dec.{T, ltb, eqb}
use lib.Ieee.{Float, fin, binary64, up, down, round, sum, add, sub, mul, div, lt, eq, of_bits}
use lib.IntN.{ℤ}
use lib.Ieee.Positive.{num, den}
use Rattle.float.specs.Rounded.{◌⊕◌, ◌⊖◌, ◌⊗◌, ◌⊘◌, bits}
use Rattle.rounding.specs.Plain.{plain}

pub mul_is : (x y : Float) → T (plain x) → T (plain y) → x ⊗ y ≡ round binary64 false (num x * num y) (den x * den y)
unfolding mul
mul_is x y p q = search rules

pub add_is : (x y : Float) → T (plain x) → T (plain y) → x ⊕ y ≡ round binary64 false (num x * den y + num y * den x) (den x * den y)
unfolding add
add_is x y p q = grind arith

finite_sub : (m n z : ℕ) (e d : ℤ) → z + n * up d * down e ≡ m * up e * down d → fin false m e ⊖ fin false n d ≡ round binary64 false z (down e * down d)
unfolding sub sum
finite_sub m n z e d h = let s : m * up e * down d - n * up d * down e ≡ z = omega arith in rw (le-ltb (m * up e * down d) (n * up d * down e) (omega arith), s)

pub sub_is : (x y : Float) (z : ℕ) → T (plain x) → T (plain y) → z + num y * den x ≡ num x * den y → x ⊖ y ≡ round binary64 false z (den x * den y)
unfolding sub sum
sub_is x y z p q h = grind (arith, finite_sub)

pub div_is : (x y : Float) → T (plain x) → T (plain y) → 0 < num y → x ⊘ y ≡ round binary64 false (num x * den y) (num y * den x)
unfolding div
div_is x y p q h = grind arith

pub lt_is : (x y : Float) → T (plain x) → T (plain y) → lt x y ≡ ltb (num x * den y) (num y * den x)
unfolding lt
lt_is x y p q = search rules

pub eq_zero : (x : Float) → T (plain x) → eq x (bits 0) ≡ eqb (num x) 0
unfolding eq of_bits
eq_zero x p = search rules

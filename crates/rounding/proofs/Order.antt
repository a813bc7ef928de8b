-- The order of finite floats with a clear sign, zero included, as one of fractions: a rounding, a product and a sum keep it, and x / y is 1 at most
-- for x ≤ y. Assumes nothing.
use Rattle.std.proofs.Common.{rules}
use mathlib.Core.Path.{◌≡◌, refl}
use mathlib.Core.Bool.{false}
use Prim.Native.Nat.{ℕ, ◌*◌, ◌^◌, ◌≤◌, ◌<◌}
use native.Mathlib.Nat.{le_trans, mul-pos, mul-le-mul, mul-le-mul_right}
use native.Mathlib.Omega.{arith}
use borrow.Author.Tests.{ltb-false}
use lib.IntN.{pos}
use lib.Dec.{T, lit<}
use lib.Ieee.{Float, binary64, round, lt, le, of_int, of_bits}
use lib.Ieee.Order.{round_mono}
use lib.Ieee.Positive.{num, den, den_pos}
use Rattle.float.specs.Rounded.{◌⊕◌, ◌⊗◌, ◌⊘◌, one}
use Rattle.rounding.specs.Exact.{AtMostOne}
use Rattle.rounding.specs.Plain.{plain}
use Rattle.rounding.proofs.Operations.{mul_is, add_is, div_is, lt_is}
use Rattle.rounding.proofs.Near.{whole_near}

-- x ≤ y
pub record Under (x y : Float) : Type 0 where
  pub left : T (plain x)
  pub right : T (plain y)
  pub below : num x * den y ≤ num y * den x

-- y ≤ x where x < y is false
pub under_of_not_lt : {x y : Float} → T (plain x) → T (plain y) → lt x y ≡ false → Under y x
under_of_not_lt {x} {y} p q h = grind (arith, lt_is x y p q, ltb-false (num x * den y) (num y * den x))

cross_of_le : (x y : Float) → T (plain x) → T (plain y) → T (le x y) → num x * den y ≤ num y * den x
unfolding le
cross_of_le x y p q h = search rules

-- ---- what is kept
pub round_under : (a b c d : ℕ) {x y : Float} → x ≡ round binary64 false a b → y ≡ round binary64 false c d → 0 < b → 0 < d → a * d ≤ c * b
    → T (plain x) → T (plain y) → Under x y
round_under a b c d {x} {y} e f B D h p q =
    let l : T (le x y) = rw (e, f) (round_mono binary64 a b c d B D h) in
    record { left = p; right = q; below = cross_of_le x y p q l }

pub whole_under : (m n : ℕ) → m ≤ n → n ≤ 2 ^ 53 → Under (of_int binary64 (pos m)) (of_int binary64 (pos n))
whole_under m n h l =
    round_under m 1 n 1 (unfold of_int in refl) (unfold of_int in refl) (lit< tt) (lit< tt) (mul-le-mul_right 1 h) (whole_near {k = 0} m (le_trans h l)).plainly
    (whole_near {k = 0} n l).plainly

pub mul_under : {x y x' y' : Float} → Under x x' → Under y y' → T (plain (x ⊗ y)) → T (plain (x' ⊗ y')) → Under (x ⊗ y) (x' ⊗ y')
mul_under {x} {y} {x'} {y'} u v p q =
    round_under _ _ _ _ (mul_is x y u.left v.left) (mul_is x' y' u.right v.right) (mul-pos (den_pos x) (den_pos y)) (mul-pos (den_pos x') (den_pos y'))
    (omega (arith, mul-le-mul u.below v.below)) p q

pub add_under : {x y x' y' : Float} → Under x x' → Under y y' → T (plain (x ⊕ y)) → T (plain (x' ⊕ y')) → Under (x ⊕ y) (x' ⊕ y')
add_under {x} {y} {x'} {y'} u v p q =
    let left = mul-le-mul_right (den y * den y') u.below in
    let right = mul-le-mul_right (den x * den x') v.below in
    round_under _ _ _ _ (add_is x y u.left v.left) (add_is x' y' u.right v.right) (mul-pos (den_pos x) (den_pos y)) (mul-pos (den_pos x') (den_pos y'))
    (omega (arith, left, right)) p q

-- ---- x / y ≤ 1 for x ≤ y
one_is : one ≡ round binary64 false 1 1
unfolding of_bits round
one_is = refl

pub div_at_most_one : {x y : Float} → Under x y → 0 < num y → T (plain (x ⊘ y)) → AtMostOne (x ⊘ y)
unfolding of_bits
div_at_most_one {x} {y} u Y p =
    let l = round_under _ _ _ _ (div_is x y u.left u.right Y) one_is (mul-pos Y (den_pos x)) (lit< tt) (omega (arith, u.below)) p tt in
    record { plainly = p; below = omega (arith, l.below) }

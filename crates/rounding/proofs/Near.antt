-- The laws of `Near`, for any operands. Each rounding adds a part: over a product and a quotient the parts add up,
-- a sum has the larger number of its two, and a difference multiplies them by what it cancels. Assumes nothing.
use Rattle.std.proofs.Common.{rules}
use mathlib.Core.Path.{◌≡◌, ap}
use mathlib.Core.Bool.{Bool, true, false, ◌&&◌}
use Prim.Native.Nat.{ℕ, ◌+◌, ◌-◌, ◌*◌, ◌^◌, ◌≤◌, ◌<◌}
use native.Mathlib.Nat.{mul-mul-mul_comm, mul-le-mul_left, mul-le-mul_right, le_of_mul-le-mul_right, mul-pos, add-zero, sub-add_cancel}
use native.Mathlib.Omega.{arith}
use borrow.Author.Tests.{lt-ltb}
use lib.IntN.{pos}
use lib.Dec.{T, ltb, leb, lit<}
use lib.Ieee.{Float, binary64, lt, of_int}
use lib.Ieee.Exact.{HasValue}
use lib.Ieee.Back.{round_whole}
use lib.Ieee.Positive.{num, den, den_pos, first_pos}
use Rattle.float.specs.Rounded.{◌⊕◌, ◌⊖◌, ◌⊗◌, ◌⊘◌}
use Rattle.rounding.specs.Plain.{plain}
use Rattle.rounding.proofs.Parts.{lo, hi, Within, Share, within_same, within_sym, within_as, within_more, within_mul, within_add, within_scale}
use Rattle.rounding.proofs.Parts.{within_twice, within_share, share_within, share_order, share_sub}
use Rattle.rounding.proofs.Round.{Near, near_of_value, near_through, Ranged, round_near}
use Rattle.rounding.proofs.Operations.{mul_is, add_is, sub_is, div_is, lt_is}

-- ---- the fraction and the parts, put otherwise
-- no more parts than that
pub near_more : {j k : ℕ} {x : Float} {p q : ℕ} → j ≤ k → Near j x p q → Near k x p q
near_more h n = record { plainly = n.plainly; divisor = n.divisor; parts = within_more h n.parts }

-- p / q in other terms
pub near_terms : {k : ℕ} {x : Float} {p q r s : ℕ} → 0 < s → p * s ≡ r * q → Near k x p q → Near k x r s
near_terms S e n = rw add-zero at (near_through {k = 0} S (within_same e) n)

-- a value that is p / q
pub near_exact : {k : ℕ} (x : Float) (p q : ℕ) → HasValue x false p q → 0 < q → Near k x p q
near_exact x p q v Q = search (rules, near_of_value, within_same)

-- what is near a fraction above zero is above zero, and what is near zero is zero
pub near_pos : {k : ℕ} {x : Float} {p q : ℕ} → k ≤ 2 ^ 52 → 0 < p → Near k x p q → 0 < num x
near_pos {x = x} {p} {q} few P n = first_pos (num x) q (omega (arith, mul-pos P (den_pos x), within_twice few (within_sym n.parts)))

pub near_zero : {k : ℕ} {x : Float} {q : ℕ} → k ≤ 2 ^ 52 → Near k x 0 q → num x ≡ 0
near_zero {x = x} few n = omega (arith, mul-le-mul_left (num x) n.divisor, within_twice few n.parts)

-- ---- as a test, for what computes
unfoldable pub near_test : ℕ → Float → ℕ → ℕ → Bool
unfolding lo hi
near_test k x p q = plain x && (ltb 0 q && (leb (num x * q * lo k) (p * den x * hi k) && leb (p * den x * lo k) (num x * q * hi k)))

pub near_of_test : (k : ℕ) (x : Float) (p q : ℕ) → T (near_test k x p q) → Near k x p q
unfolding near_test
near_of_test k x p q t = search rules

-- ---- the laws: a whole number, a product, a sum, a quotient, a difference
-- a whole number up to 2 ^ 53 is exact
pub whole_near : {k : ℕ} (n : ℕ) → n ≤ 2 ^ 53 → Near k (of_int binary64 (pos n)) n 1
unfolding of_int
whole_near n h = search (rules, near_exact, round_whole, lit<)

-- x ⊗ y beside p / q * r / s
pub mul_near : {j k : ℕ} {x y : Float} {p q r s : ℕ} → j + k ≤ 2 ^ 52 → Ranged (p * r) (q * s) → Near j x p q → Near k y r s
    → Near (1 + (j + k)) (x ⊗ y) (p * r) (q * s)
mul_near {x = x} {y} {p} {q} {r} {s} few range a b =
    rw (mul_is x y a.plainly b.plainly)
    (round_near (num x * num y) (den x * den y) few (mul-pos (den_pos x) (den_pos y)) (mul-pos a.divisor b.divisor) range
    (within_as (mul-mul-mul_comm (num x) q (num y) s) (mul-mul-mul_comm p (den x) r (den y)) (within_mul a.parts b.parts)))

-- x ⊕ y beside p / q + r / q
pub add_near : {k : ℕ} {x y : Float} {p r q : ℕ} → k ≤ 2 ^ 52 → Ranged (p + r) q → Near k x p q → Near k y r q → Near (1 + k) (x ⊕ y) (p + r) q
add_near {x = x} {y} {p} {r} {q} few range a b =
    rw (add_is x y a.plainly b.plainly)
    (round_near (num x * den y + num y * den x) (den x * den y) few (mul-pos (den_pos x) (den_pos y)) a.divisor range
    (within_as (omega arith) (omega arith) (within_add (within_scale (den y) a.parts) (within_scale (den x) b.parts))))

-- x ⊘ y beside (p / q) / (r / s)
pub div_near : {j k : ℕ} {x y : Float} {p q r s : ℕ} → j + k ≤ 2 ^ 52 → 0 < r → Ranged (p * s) (r * q) → Near j x p q → Near k y r s
    → Near (1 + (j + k)) (x ⊘ y) (p * s) (r * q)
div_near {x = x} {y} {p} {q} {r} {s} few R range a b =
    let Y : 0 < num y = near_pos (omega arith) R b in
    rw (div_is x y a.plainly b.plainly Y)
    (round_near (num x * den y) (num y * den x) few (mul-pos Y (den_pos x)) (mul-pos R a.divisor) range
    (within_as (omega arith) (omega arith) (within_mul a.parts (within_sym b.parts))))

-- A difference d = p - r that is 1 / c of p at least: k parts of the operands are less than 1 / n of them, so less than 2 * c / n of d, and that is K
-- parts at most
pub record Cancels (k c n K : ℕ) : Type 0 where
  pub some : 0 < n
  pub enough : 2 * c ≤ n
  pub shares : k * (n + 1) ≤ 2 ^ 53 + 1
  pub parts : 2 * c * (2 ^ 53 + K) ≤ K * n
  pub few : K ≤ 2 ^ 52

module _ {k c n K : ℕ} {x y : Float} {p r q : ℕ} (can : Cancels k c n K) (d : ℕ) (e : d + r ≡ p) (h : p ≤ c * d) (a : Near k x p q) (b : Near k y r q) where
  left : Share 1 n (num x * q * den y) (p * den x * den y)
  left = within_share n can.some can.shares (within_scale (den y) a.parts)

  right : Share 1 n (num y * q * den x) (r * den y * den x)
  right = within_share n can.some can.shares (within_scale (den x) b.parts)

  exact : d * (den x * den y) + r * den y * den x ≡ p * den x * den y
  exact = omega (arith, ap (λ (z : ℕ). z * (den x * den y)) e)

  part : p * den x * den y ≤ c * (d * (den x * den y))
  part = omega (arith, mul-le-mul_right (den x * den y) h)

  gap : (z : ℕ) → z + num y * den x ≡ num x * den y → Within K (z * q) (d * (den x * den y))
  gap z f =
      share_within K can.some can.parts
      (share_sub c (d * (den x * den y)) can.some can.enough exact part left right (z * q) (omega (arith, ap (λ (i : ℕ). i * q) f)))

  difference : num x * den y - num y * den x + num y * den x ≡ num x * den y
  difference =
      let o = share_order c (d * (den x * den y)) can.some can.enough exact part left right in
      sub-add_cancel (le_of_mul-le-mul_right {k = q} (omega (arith, o)) a.divisor)

  -- x ⊖ y beside p / q - r / q
  pub sub_near : Ranged d q → Near (1 + K) (x ⊖ y) d q
  sub_near range =
      let z = num x * den y - num y * den x in
      rw (sub_is x y z a.plainly b.plainly difference)
      (round_near z (den x * den y) can.few (mul-pos (den_pos x) (den_pos y)) a.divisor range (gap z difference))

  -- y < x
  pub near_lt : 0 < d → lt y x ≡ true
  near_lt some =
      let z = num x * den y - num y * den x in
      let Z : 0 < z = first_pos z q (omega (arith, mul-pos some (mul-pos (den_pos x) (den_pos y)), within_twice can.few (within_sym (gap z difference)))) in
      rw (lt_is y x b.plainly a.plainly) (lt-ltb (num y * den x) (num x * den y) (omega (arith, difference, Z)))

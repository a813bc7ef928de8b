-- The two float sums over a window of at most fifteen observations, in any order, beside the exact ones: each addition adds a part to the 8 of a term,
-- and the sum of what is lost stays no more than that of the totals. Assumes nothing.
use Rattle.std.proofs.Common.{rules}
use mathlib.Core.Path.{◌≡◌, sym, ap, ◌∙◌}
use mathlib.Core.List.{List, [], ◌∷◌, foldl}
use Prim.Native.Nat.{ℕ, suc, ◌+◌, ◌-◌, ◌*◌, ◌^◌, ◌≤◌, ◌<◌}
use native.Mathlib.Nat.{le_refl, le_trans, le_of_eq, mul-le-mul, mul-le-mul_left, mul-le-mul_right, mul-one, pow-le-pow_left, pow-le-pow_right}
use native.Mathlib.Nat.{add_assoc, add-zero, zero-add, add-le-add}
use native.Mathlib.Omega.{arith}
use lib.IntN.{pos}
use lib.Dec.{lit≤, lit<}
use lib.Pow.{pow-add}
use lib.ListN.{length}
use lib.Ieee.{Float, binary64, of_int, of_bits}
use lib.Ieee.Positive.{num, den}
use Rattle.float.specs.Rounded.{◌⊕◌, ◌⊗◌, bits}
use Rattle.std.specs.List.{All}
use Rattle.std.proofs.lemmas.List.Elements.{All-head, All-tail}
use Rattle.logarithm.specs.Power.{weight}
use Rattle.rounding.specs.Exact.{Measured, Sound, exact_weight, exact_sum, exact_total, exact_lost}
use Rattle.rounding.specs.Ratio.{add_weighted, float_total, float_lost}
use Rattle.rounding.proofs.Round.{Near, ranged}
use Rattle.rounding.proofs.Near.{near_more, near_terms, whole_near, mul_near, add_near}
use Rattle.rounding.proofs.Order.{Under, whole_under, mul_under, add_under}
use Rattle.rounding.proofs.Weight.{weight_near}

-- ---- one term
tens : (age : ℕ) → age < 15 → 10 ^ age * 10 ^ (14 - age) ≡ 10 ^ 14
tens age h = let e : age + (14 - age) ≡ 14 = omega arith in sym (pow-add 10 age (14 - age)) ∙ ap (λ (n : ℕ). 10 ^ n) e

nines : (age : ℕ) → 9 ^ age ≤ 10 ^ age
nines age = search (rules, pow-le-pow_left, lit≤)

-- (9 / 10) ^ age * n over the divisor that all terms share
shared : (age n : ℕ) → age < 15 → 9 ^ age * n * 10 ^ 14 ≡ exact_weight age * n * (10 ^ age * 1)
shared age n a = omega (arith, ap (λ (z : ℕ). 9 ^ age * n * z) (tens age a))

-- 7 parts of the weight, 1 of the product
pub term_near : (age n : ℕ) → age < 15 → n ≤ 10 ^ 12 → Near 8 (weight age ⊗ of_int binary64 (pos n)) (exact_weight age * n) (10 ^ 14)
term_near age n a h =
    let old : age ≤ 14 = omega arith in
    let ten : 10 ^ age ≤ 10 ^ 14 = pow-le-pow_right (lit< tt) old in
    let nine : 9 ^ age * n ≤ 10 ^ 14 * 10 ^ 12 = mul-le-mul (le_trans (nines age) ten) h in
    let w = weight_near age a in
    near_terms (lit< tt) (shared age n a)
    (mul_near (lit≤ tt) (ranged (omega (arith, w.divisor)) (le_trans nine (lit≤ tt)) (le_trans (le_of_eq (mul-one (10 ^ age))) (le_trans ten (lit≤ tt)))) w
    (whole_near {k = 0} n (le_trans h (lit≤ tt))))

term_le : (age n : ℕ) → age < 15 → n ≤ 10 ^ 12 → exact_weight age * n ≤ 10 ^ 26
term_le age n a h = le_trans (mul-le-mul (le_trans (mul-le-mul_right (10 ^ (14 - age)) (nines age)) (le_of_eq (tens age a))) h) (lit≤ tt)

-- ---- after i observations: x is the float sum of what is lost, y that of the totals, l and t the exact ones
pub record Sums (i : ℕ) (x y : Float) (l t : ℕ) : Type 0 where
  pub lost : Near (i + 8) x l (10 ^ 14)
  pub total : Near (i + 8) y t (10 ^ 14)
  pub order : Under x y
  pub part : l ≤ t
  pub most : t ≤ i * 10 ^ 26

start : Sums 0 (bits 0) (bits 0) 0 0
unfolding of_bits
start = search rules

add_term : {i s e : ℕ} {x z : Float} → i < 15 → s ≤ i * 10 ^ 26 → e ≤ 10 ^ 26 → Near (i + 8) x s (10 ^ 14) → Near 8 z e (10 ^ 14)
    → Near (1 + i + 8) (x ⊕ z) (s + e) (10 ^ 14)
add_term {i} h m l a b =
    rw (← (add_assoc 1 i 8)) at
    (add_near (omega arith) (ranged (lit< tt) (le_trans {m = 10 ^ 28} (omega arith) (lit≤ tt)) (lit≤ tt)) a (near_more (omega arith) b))

sums_step : {i l t : ℕ} {x y : Float} (o : Measured) → Sound o → i < 15 → Sums i x y l t
    → Sums (1 + i) (add_weighted (λ (o : Measured). o.lost) x o) (add_weighted (λ (o : Measured). o.total) y o) (l + exact_weight o.age * o.lost)
    (t + exact_weight o.age * o.total)
sums_step {i} {l} {t} {x} {y} o s h a =
    let few : o.lost ≤ 10 ^ 12 = omega arith in
    let whole : o.total ≤ 2 ^ 53 = omega arith in
    let w = weight_near o.age s.young in
    let p : exact_weight o.age * o.lost ≤ exact_weight o.age * o.total = mul-le-mul_left (exact_weight o.age) s.part in
    let m : exact_weight o.age * o.total ≤ 10 ^ 26 = term_le o.age o.total s.young s.bounded in
    let u = term_near o.age o.lost s.young few in
    let v = term_near o.age o.total s.young s.bounded in
    let lost = add_term h (le_trans a.part a.most) (le_trans p m) a.lost u in
    let total = add_term h a.most m a.total v in
    let same : Under (weight o.age) (weight o.age) =
    record { left = w.plainly; right = w.plainly; below = le_refl (num (weight o.age) * den (weight o.age)) } in
    record {
      lost = lost;
      total = total;
      order =
          add_under a.order (mul_under same (whole_under o.lost o.total s.part whole) u.plainly v.plainly) lost.plainly total.plainly;
      part = add-le-add a.part p;
      most = let k = a.most in omega arith;
    }

sums_fold : (os : List Measured) {i l t : ℕ} {x y : Float} → All Sound os → i + length os ≤ 15 → Sums i x y l t
    → Sums (i + length os) (foldl (add_weighted (λ (o : Measured). o.lost)) x os) (foldl (add_weighted (λ (o : Measured). o.total)) y os)
    (l + exact_lost os) (t + exact_total os)
unfolding exact_sum
sums_fold [] sound h a = simp add-zero a
sums_fold (o ∷ os) {i} {l} {t} sound h a =
    let e : 1 + i + length os ≡ i + suc (length os) = omega arith in
    rw (e, add_assoc l, add_assoc t) at (sums_fold os (All-tail Sound o os sound) (omega arith) (sums_step o (All-head Sound o os sound) (omega arith) a))

-- the two sums of a window
pub window_sums : (os : List Measured) → All Sound os → length os ≤ 15 → Sums (length os) (float_lost os) (float_total os) (exact_lost os) (exact_total os)
window_sums os s h = simp zero-add at (sums_fold os {i = 0} s (omega arith) start)

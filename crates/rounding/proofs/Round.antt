-- A float k parts at most from a fraction (`Near`), and one rounding of binary64: in the normal range, but for its last two binades, it moves a
-- fraction by one part at most.
-- Assumes nothing.
use Rattle.std.proofs.Common.{rules}
use mathlib.Core.Path.{◌≡◌, refl, sym, ap, ◌∙◌}
use mathlib.Core.Logic.{inl, inr}
use mathlib.Core.Bool.{false, not}
use Prim.Native.Nat.{ℕ, ◌+◌, ◌-◌, ◌*◌, ◌/◌, ◌%◌, ◌^◌, ◌≤◌, ◌<◌, compare, Ordering}
use native.Mathlib.Nat.{le_trans, le_of_eq, lt_of_le_of_lt, mul_right_comm, mul-le-mul_left, mul-le-mul_right, le_of_mul-le-mul_right, mul-pos}
use native.Mathlib.Nat.{mod-lt, div-add-mod', le-div_iff_mul-le, zero-mul, eq-zero-or-pos}
use native.Mathlib.Omega.{arith}
use lib.Dec.{T, is_le, compare_is_eq, leb→le, nleb→lt, eqb→eq, lit≤, lit<}
use lib.Pow.{pow-add, pow_pos}
use lib.Ieee.{Float, binary64, size, nearest, round}
use lib.Ieee.Digits.{size_reaches}
use lib.Ieee.Exact.{HasValue, round_exact}
use lib.Ieee.Nearest.{closest, nearest-ge}
use lib.Ieee.Order.{drop, kept}
use lib.Ieee.Scale.{grid, overflow, round_val, normal_of_fraction}
use lib.Ieee.Positive.{num, den, value→cross}
use Rattle.rounding.specs.Plain.{plain}
use Rattle.rounding.proofs.Parts.{Within, within_one, within_same, within_sym, within_as, within_through, within_scale, within_cancel, within_twice}

-- ---- a fraction n / u to the nearest whole number: half a unit away at most
half : (o : Ordering) (q r u n : ℕ) → (T (is_le o) → r * 2 ≤ u) → (T (not (is_le o)) → u < r * 2) → (T (compare_is_eq o) → r * 2 ≡ u) → q * u + r ≡ n → r < u
    → (nearest q o * u * 2 ≤ n * 2 + u) × (n * 2 ≤ nearest q o * u * 2 + u)
half o q r u n a b c e l = search rules

closest_near : (n u : ℕ) → 0 < u → (closest n u * u * 2 ≤ n * 2 + u) × (n * 2 ≤ closest n u * u * 2 + u)
closest_near n u U = grind (arith, half, leb→le, nleb→lt, eqb→eq, div-add-mod', mod-lt)

-- ---- g units of t / c, where g and n are H of them at least: half a unit is one part in 2 * H of either
parts : (n g t c H : ℕ) → (g * (c * t) * 2 ≤ n * 2 + c * t) × (n * 2 ≤ g * (c * t) * 2 + c * t) → H * (c * t) ≤ n → H ≤ g
    → (g * t * c * (2 * H) ≤ n * (2 * H + 1)) × (n * (2 * H) ≤ g * t * c * (2 * H + 1))
parts n g t c H (x, y) a b = omega (arith, mul-le-mul_right H x, mul-le-mul_right H y, mul-le-mul_right (c * t) b)

-- where the whole part of n / c has p digits at least, p of them are kept
kept_parts : (p n c : ℕ) → 0 < p → 0 < c → p ≤ size (n / c)
    → (kept p n c * 2 ^ drop p n c * c * (2 * 2 ^ (p - 1)) ≤ n * (2 * 2 ^ (p - 1) + 1))
    × (n * (2 * 2 ^ (p - 1)) ≤ kept p n c * 2 ^ drop p n c * c * (2 * 2 ^ (p - 1) + 1))
kept_parts p n c P C N =
    let k = drop p n c in
    let u = c * 2 ^ k in
    let U : 0 < u = mul-pos C (pow_pos k) in
    let reached : 2 ^ (p - 1 + k) ≤ n / c = size_reaches (n / c) (p - 1 + k) (omega arith) in
    let h : 2 ^ (p - 1) * 2 ^ k * c ≤ n = (le-div_iff_mul-le C).0 (le_trans (le_of_eq (sym (pow-add 2 (p - 1) k))) reached) in
    let e : 2 ^ (p - 1) * u ≤ n = turned (2 ^ (p - 1)) (2 ^ k) h in
    parts n (kept p n c) (2 ^ k) c (2 ^ (p - 1)) (closest_near n u U) e (le_trans ((le-div_iff_mul-le U).1 e) (nearest-ge (n / u) (compare (n % u * 2) u)))
  where
    turned : (a b : ℕ) → a * b * c ≤ n → a * (c * b) ≤ n
    turned a b h = omega arith

-- ---- the float x, finite with its sign clear, is k parts at most from p / q
pub record Near (k : ℕ) (x : Float) (p q : ℕ) : Type 0 where
  pub plainly : T (plain x)
  pub divisor : 0 < q
  pub parts : Within k (num x * q) (p * den x)

plain_of_value : (x : Float) (a c : ℕ) → HasValue x false a c → T (plain x)
plain_of_value x n d v = search rules

-- x is g / l, and that is near p / q
pub near_of_value : {k : ℕ} (x : Float) (g l p q : ℕ) → HasValue x false g l → 0 < l → 0 < q → Within k (g * q) (p * l) → Near k x p q
near_of_value x g l p q v L Q w =
    let e : num x * l * q ≡ g * den x * q = ap (λ (z : ℕ). z * q) (value→cross x g l v) in
    record {
      plainly = plain_of_value x g l v;
      divisor = Q;
      parts =
          within_cancel l L (within_as (mul_right_comm g q (den x) ∙ sym e ∙ mul_right_comm (num x) l q) (mul_right_comm p l (den x)) (within_scale (den x) w));
    }

-- p / q through another fraction a / c
pub near_through : {j k : ℕ} {x : Float} {a c p q : ℕ} → 0 < q → Within k (a * q) (p * c) → Near j x a c → Near (j + k) x p q
near_through {x = x} {a} {c} {p} {q} Q w n =
    let first = within_as refl (mul_right_comm a (den x) q) (within_scale q n.parts) in
    let both = within_through first (within_scale (den x) w) in
    record {
      plainly = n.plainly;
      divisor = Q;
      parts = within_cancel c n.divisor (within_as (mul_right_comm (num x) c q) (mul_right_comm p c (den x)) both);
    }

-- ---- binary64
-- a fraction from 2 ^ -1022 to 2 ^ 1022 is rounded by one part at most
pub round_normal : (a c : ℕ) → 0 < c → a ≤ c * 2 ^ 1022 → c ≤ a * 2 ^ 1022 → Near 1 (round binary64 false a c) a c
round_normal a c C most least =
    let g = grid binary64 a c in
    let l = 2 ^ 1074 in
    let w : Within 1 (g * c) (a * l) =
    within_one (kept_parts 53 (a * l) c (lit< tt) C (normal_of_fraction binary64 a c C (normal (2 ^ 52) l (2 ^ 1022) (lit≤ tt) least))) in
    let fine : g < overflow binary64 = lt_of_le_of_lt (under g l (2 ^ 1022) most (within_twice (lit≤ tt) w)) (lit< tt) in
    near_of_value (round binary64 false a c) g l a c (round_val binary64 a c fine) (pow_pos 1074) C w
  where
    normal : (H l b : ℕ) → H * b ≤ l → c ≤ a * b → H * c ≤ a * l
    normal H l b h k = omega (arith, mul-le-mul_left H k, mul-le-mul_left a h)

    under : (g l b : ℕ) → a ≤ c * b → g * c ≤ 2 * (a * l) → g ≤ 2 * b * l
    under g l b h k = le_of_mul-le-mul_right {k = c} (omega (arith, mul-le-mul_right l h)) C

-- ---- a rounding of what is k parts from p / q: one part more
-- p / q is 0, or from 2 ^ -1021 to 2 ^ 1021
pub record Ranged (p q : ℕ) : Type 0 where
  pub most : p ≤ q * 2 ^ 1021
  pub least : 0 < p → q ≤ p * 2 ^ 1021

-- so is any fraction of two whole numbers up to 2 ^ 1021
pub ranged : {p q : ℕ} → 0 < q → p ≤ 2 ^ 1021 → q ≤ 2 ^ 1021 → Ranged p q
ranged Q h l = search rules

pub round_near : {k p q : ℕ} (a c : ℕ) → k ≤ 2 ^ 52 → 0 < c → 0 < q → Ranged p q → Within k (a * q) (p * c) → Near (1 + k) (round binary64 false a c) p q
round_near {k} {p} {q} a c few C Q range w = elim (eq-zero-or-pos p) [ inl e ↦ at_zero e | inr P ↦ at_pos P ]
  where
    reach : (a c p q b : ℕ) → 0 < q → a * q ≤ 2 * (p * c) → p ≤ q * b → a ≤ c * (2 * b)
    reach a c p q b Q h l = le_of_mul-le-mul_right {k = q} (omega (arith, mul-le-mul_right c l)) Q

    at_zero : p ≡ 0 → Near (1 + k) (round binary64 false a c) p q
    at_zero e =
        let z : p * c ≡ 0 = rw e (zero-mul c) in
        let none : a ≡ 0 = omega (arith, mul-le-mul_left a Q, within_twice few w) in
        rw none (near_of_value (round binary64 false 0 c) 0 c p q (round_exact binary64 false 0 c 0 0 C (lit< tt) (lit< tt) (sym (zero-mul c))) C Q
        (within_same (zero-mul q ∙ sym z)))

    at_pos : 0 < p → Near (1 + k) (round binary64 false a c) p q
    at_pos P =
        let h : c * p ≤ 2 * (q * a) = omega (arith, within_twice few (within_sym w)) in
        near_through Q w (round_normal a c C (reach a c p q (2 ^ 1021) Q (within_twice few w) range.most) (reach c a q p (2 ^ 1021) P h (range.least P)))

-- What has a logarithm: a float between two normal ones, and 1 more than one that is finite and not negative. Assumes nothing.
use Prim.Native.Nat.{ℕ, suc, ◌+◌, ◌-◌, ◌*◌, ◌^◌, ◌≤◌, ◌<◌}
use mathlib.Core.Path.{◌≡◌, refl, sym, ap, ◌∙◌}
use mathlib.Core.Bool.{Bool, true, false, not}
use native.Mathlib.Nat.{le_trans, le_of_lt, lt_of_le_of_lt, le_of_eq, mul_assoc, mul-one, one-mul, mul-le-mul, mul-le-mul_right}
use native.Mathlib.Nat.{lt_of_mul-lt-mul_right, sub-add_cancel}
use native.Mathlib.Omega.{arith}
use lib.Dec.{T, leb, leb→le, nleb→lt, lit≤, lit<}
use lib.IntN.{ℤ, pos, negsuc}
use lib.Pow.{pow-add, pow_mono, pow_pos}
use lib.Ieee.{Float, fin, binary64, up, down, round, sum, add, le, fits, of_bits}
use lib.Ieee.Fits.{down_pos}
use lib.Ieee.Bits.{is_true}
use lib.Ieee.Order.{round_mono}
use lib.Ieee.Positive.{positive, between, le_trans_positive}
use lib.Ieee.Scale.{finite}
use Rattle.float.specs.Rounded.{bits, one, ◌⊕◌}
use Rattle.float.proofs.Fits.{fits_says}
use Rattle.float.proofs.NotNegative.{NotNegative}
use Rattle.refusal.specs.Outcome.{number}
use Rattle.logarithm.specs.Ln.{logarithm}

-- ---- between two normal floats

-- the smallest normal float
abbrev pub smallest : Float
smallest = bits 0x0010000000000000

-- the largest finite one
abbrev pub largest : Float
largest = bits 0x7FEFFFFFFFFFFFFF

-- a float from lo to hi, both of them normal, has a logarithm
pub logarithm_between : (lo x hi : Float) → T (positive lo) → T (positive hi) → T (le smallest lo) → T (le hi largest) → T (le lo x) → T (le x hi)
    → number (logarithm x) ≡ 0
unfolding logarithm of_bits
logarithm_between lo x hi p q normal finite l h =
    let z : T (positive x) = between lo x hi p q l h in
    rw (is_true (le smallest x) (le_trans_positive smallest lo x tt p z normal l), is_true (le x largest) (le_trans_positive x hi largest z q tt h finite))

-- ---- the largest float

abbrev most : ℕ
most = (2 ^ 53 - 1) * 2 ^ 971

below : (m : ℕ) → m < 2 ^ 53 → m ≤ 2 ^ 53 - 1
below m h = omega arith

whole_most : (m k : ℕ) → m < 2 ^ 53 → m * 2 ^ k < 2 ^ 1024 → m * 2 ^ k ≤ most
whole_most m k a b = go (leb k 971) (leb→le k 971) (nleb→lt k 971)
  where
    go : (t : Bool) → (T t → k ≤ 971) → (T (not t) → 971 < k) → m * 2 ^ k ≤ most
    go true h l = mul-le-mul (below m a) (pow_mono (h tt))
    go false h l =
        let q = m * 2 ^ (k - 971) in
        let e : m * 2 ^ k ≡ q * 2 ^ 971 = ap (λ (i : ℕ). m * 2 ^ i) (sym (sub-add_cancel (le_of_lt (l tt))))
        ∙ ap (λ (p : ℕ). m * p) (pow-add 2 (k - 971) 971) ∙ sym (mul_assoc m (2 ^ (k - 971)) (2 ^ 971)) in
        rw e (mul-le-mul_right (2 ^ 971) (below q (lt_of_mul-lt-mul_right (2 ^ 971) {m = q} {n = 2 ^ 53} (lt_of_le_of_lt (le_of_eq (sym e)) b))))

fits_most : (m : ℕ) (e : ℤ) → T (fits binary64 (fin false m e)) → m * up e ≤ most * down e
fits_most m (pos k) f =
    let s = fits_says binary64 false m (pos k) f in
    rw (mul-one most) (whole_most m k s.0 (rw mul-one at s.2))
fits_most m (negsuc k) f = mul-le-mul (le_trans (below m (fits_says binary64 false m (negsuc k) f).0) (lit≤ tt)) (pow_pos (suc k))

-- ---- 1 + x, also for the largest float

abbrev top : Float
top = round binary64 false (most + 1) 1

top_positive : T (positive top)
unfolding round
top_positive = tt

top_finite : T (le top largest)
unfolding round of_bits le
top_finite = tt

one_is : one ≡ round binary64 false 1 1
unfolding of_bits round
one_is = refl

one_normal : T (le smallest one)
unfolding of_bits le
one_normal = tt

-- 1 more than what is finite and not negative has a logarithm
pub one_more : (x : Float) → NotNegative x → T (finite x) → number (logarithm (one ⊕ x)) ≡ 0
unfolding of_bits add sum
one_more lib.Ieee.nan n f = elim f [ ]
one_more (lib.Ieee.inf _) n f = elim f [ ]
one_more (fin true m e) n f = absurd n.above
one_more (fin false m e) n f =
    let d : 0 < 1 * down e = rw one-mul (down_pos e) in
    logarithm_between one _ top tt top_positive one_normal top_finite
    (rw one_is (round_mono binary64 1 1 (1 * down e + m * up e * 1) (1 * down e) (lit< tt) d (least (m * up e) (down e))))
    (round_mono binary64 (1 * down e + m * up e * 1) (1 * down e) (most + 1) 1 d (lit< tt) (at_most_lem (m * up e) (down e) most (fits_most m e n.holds)))
  where
    least : (a d : ℕ) → 1 * (1 * d) ≤ (1 * d + a * 1) * 1
    least a d = omega arith

    at_most_lem : (a d most : ℕ) → a ≤ most * d → (1 * d + a * 1) * 1 ≤ (most + 1) * (1 * d)
    at_most_lem a d most h = omega arith

-- A loss probability and its complement have logarithms, at any sending rate of binary64 and any bandwidth that is not negative. Assumes nothing.
use Rattle.std.proofs.Common.{◌≡◌, ℕ, suc, ◌+◌, ◌-◌, ◌*◌, ◌^◌, ◌≤◌, ◌<◌, true, false, ◌&&◌, T, ℤ, pos, negsuc, refl, sym, ap, ◌∙◌, le_of_eq, le_of_lt, le_refl, le_trans, mul-pos, one-mul, mul-one, mul-le-mul_right, mul_assoc, sub-le, sub-add_cancel, lt_of_not-le, not-le_of_lt, lt_of_mul-lt-mul_right, arith, lit<, pow_mono, pow-add, ltb-true, ltb-false, true≢false}
use Rattle.std.proofs.lemmas.Float.{T_from_true, T_from_false, le_of_not-lt}
use Rattle.std.specs.Float.{float_clamp}
use Rattle.std.specs.Result.{IsOk}
use lib.Pow.{pow-lt}
use lib.Ieee.{Float, nan, inf, fin, binary64, low, emax, up, down, round, add, sub, lt, le, fits, is_nan, of_bits}
use lib.Ieee.Digits.{back}
use lib.Ieee.Bits.{is_true}
use lib.Ieee.Exact.{HasValue, round_exact}
use lib.Ieee.Fits.{and_l, and_r, down_pos}
use lib.Ieee.Order.{round_mono}
use lib.Ieee.Positive.{num, den, den_pos, first_pos, positive, between, le_trans_positive, sub_anti, value→cross, through}
use lib.Ieee.Scale.{finite}
use Rattle.float.specs.Rounded.{bits, one, ◌⊖◌, ◌⊘◌}
use Rattle.float.proofs.Fits.{fits_says}
use Rattle.float.proofs.NotNan.{NotNan, add_not_nan, mul_not_nan}
use Rattle.float.proofs.NotNegative.{upward, round_upward, above_upward}
use Rattle.float.proofs.Refusal.{tested}
use Rattle.bandwidth.specs.declared.Bitrate.{Bitrate}
use Rattle.logarithm.specs.Ln.{logarithm}
use Rattle.logarithm.proofs.Logarithms.{logarithm_between}
use Rattle.rounding.specs.Plain.{plain}
use Rattle.rounding.proofs.Operations.{sub_is, div_is, lt_is}
use Rattle.rounding.proofs.Order.{Under, round_under}
use Rattle.rounding.proofs.Upward.{upward_plain}
use Rattle.likelihood.specs.Probability.{least, congested, probability}
use Rattle.refusal.proofs.Gives.{ok_of_number}

-- ---- what is finite

-- what has its sign clear and is no more than a finite float is finite
finite_below : (x y : Float) → T (upward x) → T (finite y) → T (le x y) → T (finite x)
unfolding le
finite_below nan y u f h = elim u [ ]
finite_below (inf false) nan u f h = elim f [ ]
finite_below (inf false) (inf _) u f h = elim f [ ]
finite_below (inf true) y u f h = elim u [ ]
finite_below (inf false) (fin t m e) u f h = absurd h
finite_below (fin s m e) y u f h = tt

one_finite : T (finite (round binary64 false 1 1))
unfolding round
one_finite = tt

-- a fraction of 1 at most
part_finite : (a c : ℕ) → 0 < c → a ≤ c → T (finite (round binary64 false a c))
part_finite a c C h = finite_below _ _ (round_upward a c) one_finite (round_mono binary64 a c 1 1 C (lit< tt) (flat a c h))
  where
    flat : (a c : ℕ) → a ≤ c → a * 1 ≤ 1 * c
    flat a c h = omega arith

-- ---- the inherent loss, clamped to 0 and 1

-- it and what is left of 1 are finite
record FiniteLoss (i : Float) : Type 0 where
  itself : T (finite i)
  rest : T (finite (one ⊖ i))

loss_between : (x : Float) → NotNan x → lt x (bits 0) ≡ false → lt one x ≡ false → FiniteLoss x
unfolding is_nan lt of_bits sub add
loss_between nan n l h = absurd (true≢false n)
loss_between (inf true) n l h = absurd (true≢false l)
loss_between (inf false) n l h = absurd (true≢false h)
loss_between (fin true m e) n l h =
    record { itself = tt; rest = part_finite (1 * down e + m * up e * 1) (1 * down e) (mul-pos (lit< tt) (down_pos e)) (omega (arith, ltb-false)) }
loss_between (fin false m e) n l h =
    record { itself = tt; rest = rw h (part_finite (1 * down e - m * up e * 1) (1 * down e) (mul-pos (lit< tt) (down_pos e)) (omega arith)) }

inherent_finite : (x : Float) → NotNan x → FiniteLoss (float_clamp x (bits 0) one)
unfolding lt of_bits sub
inherent_finite x n =
    tested FiniteLoss (lt x (bits 0)) (λ h. record { itself = tt; rest = tt })
    (λ l. tested FiniteLoss (lt one x) (λ h. record { itself = tt; rest = tt }) (loss_between x n l))

-- ---- the share of what is sent that is above the bandwidth

-- 2 ^ e is a multiple of the smallest float
scaled : (e : ℤ) → down e ≤ 2 ^ low binary64 → (j : ℕ) × (up e * 2 ^ low binary64 ≡ 2 ^ j * down e)
scaled (pos k) h = (k + low binary64, sym (pow-add 2 k (low binary64)) ∙ sym (mul-one (2 ^ (k + low binary64))))
scaled (negsuc k) h =
    let l : k < low binary64 = lt_of_not-le (λ g. not-le_of_lt (pow-lt (le_refl (suc k))) (le_trans h (pow_mono g))) in
    (low binary64 - suc k, one-mul (2 ^ low binary64) ∙ ap (λ (i : ℕ). 2 ^ i) (sym (back (low binary64) (suc k) l)) ∙ pow-add 2 (low binary64 - suc k) (suc k))

-- a plain float of binary64 is exact
plain_exact : (x : Float) → T (plain x) → T (fits binary64 x) → HasValue (round binary64 false (num x) (den x)) false (num x) (den x)
plain_exact nan p f = elim p [ ]
plain_exact (inf _) p f = elim p [ ]
plain_exact (fin true m e) p f = elim p [ ]
plain_exact (fin false m e) p f =
    let k = fits_says binary64 false m e f in
    let j = scaled e k.1 in
    let l = 2 ^ low binary64 in
    let same : m * up e * l ≡ m * 2 ^ j.0 * down e = mul_assoc m (up e) l ∙ ap (λ (i : ℕ). m * i) j.1 ∙ sym (mul_assoc m (2 ^ j.0) (down e)) in
    let fine : m * 2 ^ j.0 * down e < l * 2 ^ suc (emax binary64) * down e = omega (arith, same, k.2) in
    round_exact binary64 false (m * up e) (down e) m j.0 (down_pos e) k.0 (rw (pow-add 2 (low binary64) (suc (emax binary64))) (lt_of_mul-lt-mul_right (down e) fine)) same

value_finite : (x : Float) (a c : ℕ) → HasValue x false a c → T (finite x)
value_finite nan a c v = elim v [ ]
value_finite (inf _) a c v = elim v [ ]
value_finite (fin s m e) a c v = tt

-- the difference is no more than s, so it is finite, and divided by s it is 1 at most
share_finite : (s l : Float) → T (fits binary64 s) → T (finite s) → T (finite l) → T (upward l) → lt l s ≡ true → T (finite ((s ⊖ l) ⊘ s))
share_finite s l fit f g up h =
    let S : T (plain s) = upward_plain s (above_upward l s up h) f in
    let p : T (plain l) = upward_plain l up g in
    let less : num l * den s < num s * den l = ltb-true _ _ (rw (lt_is l s p S) at h) in
    let z = num s * den l - num l * den s in
    let c = den s * den l in
    let C : 0 < c = mul-pos (den_pos s) (den_pos l) in
    let small : z * den s ≤ num s * c = turned z (num s) (den l) (den s) (sub-le (num s * den l) (num l * den s)) in
    let whole = round binary64 false (num s) (den s) in
    let v : HasValue whole false (num s) (den s) = plain_exact s S fit in
    let F : T (finite whole) = value_finite whole _ _ v in
    let d = s ⊖ l in
    let d_is : d ≡ round binary64 false z c = sub_is s l z S p (sub-add_cancel (le_of_lt less)) in
    let n : T (upward d) = rw d_is (round_upward z c) in
    let D : T (plain d) = upward_plain d n (finite_below d whole n F (rw d_is (round_mono binary64 z c (num s) (den s) C (den_pos s) small))) in
    let u : Under d whole = round_under z c (num s) (den s) d_is refl C (den_pos s) small D (upward_plain whole (round_upward (num s) (den s)) F) in
    let pos : 0 < num s = first_pos (num s) (den l) (omega arith) in
    rw (div_is d s D S pos)
    (part_finite (num d * den s) (num s * den d) (mul-pos pos (den_pos d))
    (through (num d) (num whole) (num s) (den d) (den whole) (den s) (den_pos whole) u.below (le_of_eq (value→cross whole (num s) (den s) v))))
  where
    turned : (z a b e : ℕ) → z ≤ a * b → z * e ≤ a * (e * b)
    turned z a b e h = let k = mul-le-mul_right e h in omega arith

congested_not_nan :
    (i : Float) (limited sending : Bitrate) → FiniteLoss i → T (upward limited.bps) → T (fits binary64 sending.bps) →
    NotNan (congested i limited sending)
unfolding congested
congested_not_nan i limited sending k u fit =
    let s = sending.bps in
    let l = limited.bps in
    tested NotNan (finite s && finite l && lt l s)
    (λ h.
    let both : T (finite s && finite l) = and_l (finite s && finite l) (lt l s) (T_from_true _ h) in
    let less : lt l s ≡ true = is_true (lt l s) (and_r (finite s && finite l) (lt l s) (T_from_true _ h)) in
    let share = share_finite s l fit (and_l (finite s) (finite l) both) (and_r (finite s) (finite l) both) u less in
    add_not_nan i _ k.itself (mul_not_nan (one ⊖ i) ((s ⊖ l) ⊘ s) k.rest share))
    (λ h. finite_not_nan i k.itself)
  where
    finite_not_nan : (x : Float) → T (finite x) → NotNan x
    finite_not_nan nan f = elim f [ ]
    finite_not_nan (inf _) f = elim f [ ]
    finite_not_nan (fin s m e) f = unfold is_nan in refl

-- ---- the whole, clamped to 0.000001 and 1 - 0.000001

-- p and 1 - p have logarithms
pub record Probable (p : Float) : Type 0 where
  pub lost : IsOk (logarithm p)
  pub received : IsOk (logarithm (one ⊖ p))

-- 1 - 0.000001, rounded
abbrev most : Float
most = one ⊖ least

between_probable : (p : Float) → T (le least p) → T (le p most) → Probable p
unfolding of_bits sub le
between_probable p l h =
    let P : T (positive p) = between least p most tt tt l h in
    let up_to : T (le p one) = le_trans_positive p most one P tt tt h tt in
    record {
      lost = ok_of_number _ (logarithm_between least p most tt tt tt tt l h);
      received =
          ok_of_number _ (logarithm_between (one ⊖ most) (one ⊖ p) most tt tt tt tt (sub_anti binary64 one p most tt P tt h tt) (sub_anti binary64 one least p tt tt P l up_to));
    }

clamped_probable : (x : Float) → NotNan x → Probable (float_clamp x least most)
unfolding le of_bits sub is_nan
clamped_probable x n =
    tested Probable (lt x least) (λ h. between_probable least tt tt)
    (λ l. tested Probable (lt most x) (λ h. between_probable most tt tt)
    (λ h. between_probable x (le_of_not-lt x least (T_from_false _ n) tt (T_from_false _ l)) (le_of_not-lt most x tt (T_from_false _ n) (T_from_false _ h))))

-- so it is with the probability of a rate of binary64 under a bandwidth that is not negative
pub probability_probable :
    (inherent : Float) (limited sending : Bitrate) → NotNan inherent → T (upward limited.bps) → T (fits binary64 sending.bps) →
    Probable (probability inherent limited sending)
unfolding probability
probability_probable inherent limited sending n u fit =
    clamped_probable _ (congested_not_nan _ limited sending (inherent_finite inherent n) u fit)

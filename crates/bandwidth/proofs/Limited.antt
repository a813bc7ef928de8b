-- Rates from 0 to 10^15 bit/s: what a limited product and a limited sum give, and what keeps a rate there (request Q-5). Assumes nothing.
use Rattle.std.proofs.Common.{◌≡◌, Bool, true, false, ◌&&◌, T, refl}
use lib.Ieee.{Float, binary64, lt, of_bits}
use lib.Ieee.Bits.{of_bits-fits}
use lib.Ieee.Fits.{and_i, add-fits, mul-fits}
use lib.Ieee.Scale.{finite}
use Rattle.float.proofs.AtMost.{at_most_finite, below_at_most, minimum_at_most}
use Rattle.float.proofs.Extremes.{minimum_by, maximum_by}
use Rattle.float.proofs.NotNegative.{upward, NotNegative, upward_not_nan, add_not_negative, mul_not_negative, maximum_not_negative}
use Rattle.float.proofs.Refusal.{either, tested}
use Rattle.bandwidth.specs.Rate.{most_rate, limited, times, plus, smaller, larger}
use Rattle.bandwidth.specs.declared.Bitrate.{Bitrate}
use Rattle.bandwidth.proofs.NotNegativeRate.{HoldsRate, NotNegativeRate}

-- not negative and not above 10^15
pub record LimitedRate (r : Bitrate) : Type 0 where
  pub forward : NotNegativeRate r
  pub within : lt most_rate.bps r.bps ≡ false

most_finite : T (finite most_rate.bps)
most_finite = unfold of_bits in tt

most_upward : T (upward most_rate.bps)
most_upward = unfold of_bits in tt

most_limited : LimitedRate most_rate
most_limited = record { forward = record { holds = of_bits-fits binary64 _; above = most_upward }; within = unfold lt of_bits in refl }

-- so it is finite
pub limited_finite : (r : Bitrate) → LimitedRate r → T (finite r.bps)
limited_finite r l = at_most_finite most_rate.bps r.bps most_finite l.forward.above l.within

-- ---- the limit

-- it keeps what both keep
limited_by : (P : Bitrate → Type 0) (operands_finite : Bool) (r : Bitrate) → P most_rate → P r → P (limited operands_finite r)
unfolding limited
limited_by P operands_finite r p q = either P (operands_finite && lt most_rate.bps r.bps) most_rate r p q

pub limited_kept : (operands_finite : Bool) (r : Bitrate) → LimitedRate r → LimitedRate (limited operands_finite r)
limited_kept operands_finite r l = limited_by LimitedRate operands_finite r most_limited l

-- what finite operands give, where it is not negative
finite_limited : (operands_finite : Bool) (r : Bitrate) → T operands_finite → NotNegativeRate r → LimitedRate (limited operands_finite r)
unfolding limited
finite_limited false r t n = elim t [ ]
finite_limited true r t n = tested LimitedRate (lt most_rate.bps r.bps) (λ h. most_limited) (λ h. record { forward = n; within = h })

-- ---- a rate times a factor, a rate plus a rate

-- of finite operands that are not negative
pub times_limited : (r : Bitrate) (x : Float) → T (finite r.bps) → T (upward r.bps) → T (finite x) → T (upward x) → LimitedRate (times r x)
unfolding times
times_limited r x f u g v = finite_limited _ _ (and_i (finite r.bps) (finite x) f g) (mul_not_negative r.bps x f u g v)

pub plus_limited : (a b : Bitrate) → T (finite a.bps) → NotNegativeRate a → T (finite b.bps) → NotNegativeRate b → LimitedRate (plus a b)
unfolding plus
plus_limited a b f n g k = finite_limited _ _ (and_i (finite a.bps) (finite b.bps) f g) (add_not_negative a.bps b.bps n k)

-- of any: a float of binary64
pub times_holds : (r : Bitrate) (x : Float) → HoldsRate (times r x)
unfolding times
times_holds r x = limited_by HoldsRate _ _ most_limited.forward.holds (mul-fits binary64 r.bps x)

pub plus_holds : (a b : Bitrate) → HoldsRate (plus a b)
unfolding plus
plus_holds a b = limited_by HoldsRate _ _ most_limited.forward.holds (add-fits binary64 a.bps b.bps)

-- ---- the smaller and the larger

-- what is below a limited rate
pub below_limited : (r s : Bitrate) → LimitedRate r → NotNegativeRate s → lt s.bps r.bps ≡ true → LimitedRate s
below_limited r s l n h = record { forward = n; within = below_at_most most_rate.bps r.bps s.bps most_finite most_upward h l.within }

-- the smaller of a limited rate and any other is not above the limit, and is limited where the other is not negative
pub smaller_within : (r s : Bitrate) → LimitedRate r → lt most_rate.bps (smaller r s).bps ≡ false
unfolding smaller
smaller_within r s l = minimum_at_most most_rate.bps r.bps s.bps most_finite most_upward (upward_not_nan r.bps l.forward.above) l.within

pub smaller_limited : (r s : Bitrate) → LimitedRate r → NotNegativeRate s → LimitedRate (smaller r s)
unfolding smaller
smaller_limited r s l n = record { forward = minimum_by NotNegative r.bps s.bps (λ h. l.forward) n; within = smaller_within r s l }

-- the larger of a limited rate and one that is not above the limit
pub larger_limited : (r s : Bitrate) → LimitedRate r → HoldsRate s → lt most_rate.bps s.bps ≡ false → LimitedRate (larger r s)
unfolding larger
larger_limited r s l f h = record {
  forward = maximum_not_negative s.bps l.forward f;
  within = maximum_by (λ (x : Float). lt most_rate.bps x ≡ false) r.bps s.bps (λ n. l.within) h;
}

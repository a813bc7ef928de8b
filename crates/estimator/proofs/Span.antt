-- The hold's doubled span: below 60.0 s the seconds are a duration, and 60 s is not passed, so that `doubled` is the Rust's minimum of 60 s and that
-- duration. Assumes nothing.
use Rattle.std.proofs.Common.{◌≡◌, ℕ, ◌*◌, ◌%◌, ◌/◌, ◌≤◌, min, Bool, true, false, cond, T, ℤ, pos, Ok, refl, sym, ap, ◌∙◌, true≢false, arith, rules, lit<, lit≤}
use Rattle.std.proofs.lemmas.Bool.Decides.{nat_tests}
use lib.Ieee.{Float, inf, fin, binary64, up, down, mul, div, lt, eq, le, of_int, of_bits}
use lib.Ieee.Fits.{down_pos}
use lib.Ieee.Nearest.{closest, closest_mono}
use Rattle.float.specs.Rounded.{◌⊗◌, ◌⊘◌, bits}
use Rattle.float.proofs.NotNegative.{upward, round_upward, add_upward}
use Rattle.duration.specs.Nanos.{ns, fitted}
use Rattle.duration.specs.Seconds.{nanos_per_second, billion, seconds, nearest_nanos, from_seconds}
use Rattle.duration.specs.declared.Duration.{Duration}
use Rattle.config.specs.Config.{hold_duration_factor, max_hold_duration}
use Rattle.estimator.specs.Hold.{sixty, twice, doubled}

-- ---- the doubled seconds have their sign clear

over_billion : (x : Float) → T (upward x) → T (upward (x ⊘ billion))
unfolding div of_bits
over_billion lib.Ieee.nan p = elim p [ ]
over_billion (inf true) p = elim p [ ]
over_billion (fin true m e) p = elim p [ ]
over_billion (inf false) p = tt
over_billion (fin false m e) p = round_upward (m * up e * 1) (nanos_per_second * down e)

times_two : (x : Float) → T (upward x) → T (upward (x ⊗ hold_duration_factor))
unfolding mul of_bits
times_two lib.Ieee.nan p = elim p [ ]
times_two (inf true) p = elim p [ ]
times_two (fin true m e) p = elim p [ ]
times_two (inf false) p = tt
times_two (fin false m e) p = round_upward (m * up e * 2) (down e * 1)

twice_upward : (d : Duration) → T (upward (twice d))
unfolding seconds twice of_int
twice_upward d =
    times_two (seconds d)
    (add_upward _ _ (round_upward (d.nanos / nanos_per_second) 1)
    (over_billion (of_int binary64 (pos (d.nanos % nanos_per_second))) (round_upward (d.nanos % nanos_per_second) 1)))

-- ---- against 60.0

module _ (m : ℕ) (e : ℤ) where
  abbrev nanos : ℕ
  nanos = closest (m * up e * nanos_per_second) (down e)

  below_sixty : le sixty (fin false m e) ≡ false → nanos ≤ 60000000000
  unfolding le lt eq of_bits
  below_sixty h =
      let l : m * up e * 1 ≤ 60 * down e = grind (arith, nat_tests) in
      closest_mono (m * up e * nanos_per_second) (down e) 60000000000 1 (down_pos e) (lit< tt) (omega arith)

  from_sixty : le sixty (fin false m e) ≡ true → 60000000000 ≤ nanos
  unfolding le lt eq of_bits
  from_sixty h =
      let l : 60 * down e ≤ m * up e * 1 = grind (arith, nat_tests) in
      closest_mono 60000000000 1 (m * up e * nanos_per_second) (down e) (lit< tt) (down_pos e) (omega arith)

-- ---- seconds to ns

not_negative : (m : ℕ) (e : ℤ) → lt (fin false m e) (bits 0) ≡ false
unfolding lt of_bits
not_negative m e = grind (arith, nat_tests)

from_finite : (m : ℕ) (e : ℤ) → from_seconds (fin false m e) ≡ fitted (nanos m e)
unfolding from_seconds nearest_nanos
from_finite m e = rw (not_negative m e)

infinity_long : le sixty (inf false) ≡ true
unfolding le lt of_bits
infinity_long = refl

fitted_nanos : (k : ℕ) (n : Duration) → fitted k ≡ Ok n → n ≡ ns k
unfolding fitted
fitted_nanos k n h = grind (arith, nat_tests)

taken : (x : Float) → T (upward x) → le sixty x ≡ false → from_seconds x ≡ Ok (ns (nearest_nanos x))
unfolding fitted nearest_nanos
taken lib.Ieee.nan p h = elim p [ ]
taken (inf true) p h = elim p [ ]
taken (fin true m e) p h = elim p [ ]
taken (inf false) p h = absurd (true≢false (sym infinity_long ∙ h))
taken (fin false m e) p h =
    let l = below_sixty m e h in
    rw (from_finite m e) (grind (arith, nat_tests))

smaller : (x : Float) (n : Duration) (b : Bool) → T (upward x) → le sixty x ≡ b → from_seconds x ≡ Ok n
    → (cond b max_hold_duration (ns (nearest_nanos x))).nanos ≡ min 60000000000 n.nanos
unfolding from_seconds nearest_nanos
smaller lib.Ieee.nan n b p h k = elim p [ ]
smaller (inf true) n b p h k = elim p [ ]
smaller (fin true m e) n b p h k = elim p [ ]
smaller (inf false) n b p h k = search rules
smaller (fin false m e) n true p h k =
    let same = fitted_nanos (nanos m e) n (rw (from_finite m e) at k) in
    omega (arith, ap (λ (d : Duration). d.nanos) same, from_sixty m e h)
smaller (fin false m e) n false p h k =
    let same = fitted_nanos (nanos m e) n (rw (from_finite m e) at k) in
    omega (arith, ap (λ (d : Duration). d.nanos) same, below_sixty m e h)

-- below 60.0 s the doubled seconds are a duration, which is the span
pub doubled_taken : (d : Duration) → le sixty (twice d) ≡ false → from_seconds (twice d) ≡ Ok (doubled d)
unfolding doubled
doubled_taken d h = rw h (taken (twice d) (twice_upward d) h)

-- wherever they are one, the span is the smaller of 60 s and theirs (MAX_HOLD_DURATION.min)
pub doubled_is_minimum : (d n : Duration) → from_seconds (twice d) ≡ Ok n → (doubled d).nanos ≡ min 60000000000 n.nanos
unfolding doubled
doubled_is_minimum d n = smaller (twice d) n (le sixty (twice d)) (twice_upward d) refl

short : (x : Float) (b : Bool) → T (upward x) → le sixty x ≡ b → (cond b max_hold_duration (ns (nearest_nanos x))).nanos ≤ 60000000000
short x true p h = lit≤ tt
short x false p h = omega (arith, smaller x _ false p h (taken x p h))

pub doubled_short : (d : Duration) → (doubled d).nanos ≤ 60000000000
unfolding doubled
doubled_short d = short (twice d) (le sixty (twice d)) (twice_upward d) refl

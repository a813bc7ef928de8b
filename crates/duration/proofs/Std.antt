-- What std's `Duration` answers, in the words of `specs/`. Assumes nothing.
use Rattle.std.proofs.Common.{◌≡◌, ℕ, ◌*◌, ◌/◌, ◌%◌, ◌^◌, ◌<◌, ◌≤◌, min, Bool, true, false, cond, T, ℤ, pos, refl, Ok, Err, le_trans, le-div_iff_mul-le, arith, ltb-false, le-ltb, lt-ltb}
use Rattle.std.proofs.lemmas.Float.{le_of_not-lt, lt_irrefl, lt_of_lt_of_le}
use Prim.Native.Nat.{compare}
use Rattle.std.specs.Prelude.{Float}
use Rattle.std.specs.Float.{nan, inf, fin, float_zero}
use Rattle.std.specs.Float.Ieee.{is_nan, up, down, lt, le, of_bits}
use Rattle.std.specs.Float.Ieee.Fits.{down_pos}
use Rattle.std.specs.Float.Ieee.Nearest.{closest, nearest-ge}
use Rattle.std.specs.Duration.{as_nanos, as_secs_f64, nanos_of_secs, FitsDurationSecs}
use Rattle.std.specs.declared.time.Duration.{Duration as Span}
use Rattle.refusal.specs.declared.Refusal.TheVariants.{Arithmetic}
use Rattle.float.specs.Rounded.{bits}
use Rattle.duration.specs.Nanos.{ns, fitted}
use Rattle.duration.specs.Seconds.{nanos_per_second, seconds, nearest_nanos, from_seconds}

-- ---- seconds as a float

pub seconds_is : (span : Span) (n : ℕ) → as_nanos span ≡ n → as_secs_f64 span ≡ seconds (ns n)
unfolding seconds
seconds_is span n h =
    let whole : span.secs ≡ n / nanos_per_second = omega arith in
    let rest : min span.nanos 999999999 ≡ n % nanos_per_second = omega arith in
    rw (whole, rest)

-- ---- a float as seconds

zero_is : bits 0 ≡ float_zero
unfolding of_bits
zero_is = refl

-- 2 ^ 64 s or more are 2 ^ 64 ns or more
too_long : (s : Bool) (m : ℕ) (e : ℤ) → lt (fin s m e) (fin false 1 (pos 64)) ≡ false → Err Arithmetic ≡ fitted (nearest_nanos (fin s m e))
unfolding lt nearest_nanos fitted
too_long true m e h = absurd (omega (arith, ltb-false, down_pos e))
too_long false m e h =
    let N = m * up e * nanos_per_second in
    let q : 2 ^ 64 ≤ N / down e = (le-div_iff_mul-le (down_pos e)).1 (omega (arith, ltb-false)) in
    let g : 2 ^ 64 ≤ closest N (down e) = le_trans q (nearest-ge (N / down e) (compare (N % down e * 2) (down e))) in
    rw (le-ltb (closest N (down e)) (2 ^ 64) g)

pub refused_outside : (x : Float) → (FitsDurationSecs x → ⊥) → Err Arithmetic ≡ from_seconds x
unfolding is_nan from_seconds
refused_outside nan n = refl
refused_outside (inf s) n = refl
refused_outside (fin s m e) n = rw zero_is (go (lt (fin s m e) float_zero) refl)
  where
    long : (t : Bool) → lt (fin s m e) (fin false 1 (pos 64)) ≡ t → lt (fin s m e) float_zero ≡ false → Err Arithmetic ≡ fitted (nearest_nanos (fin s m e))
    long true h k = absurd (n (le_of_not-lt (fin s m e) float_zero tt tt (rw k tt), rw h tt))
    long false h k = too_long s m e h

    go : (t : Bool) → lt (fin s m e) float_zero ≡ t → Err Arithmetic ≡ cond t (Err Arithmetic) (fitted (nearest_nanos (fin s m e)))
    go true h = refl
    go false h = long (lt (fin s m e) (fin false 1 (pos 64))) refl h

not_below : (x : Float) → T (le float_zero x) → lt x float_zero ≡ false
not_below x h = go (lt x float_zero) refl
  where
    go : (t : Bool) → lt x float_zero ≡ t → t ≡ false
    go false k = refl
    go true k = absurd (lt_irrefl x (lt_of_lt_of_le x float_zero x (rw k tt) h))

fitted_is : (x : Float) → FitsDurationSecs x → fitted (nanos_of_secs x) ≡ from_seconds x
unfolding lt le from_seconds nearest_nanos
fitted_is nan f = absurd f.0
fitted_is (inf true) f = absurd f.0
fitted_is (inf false) f = absurd f.1
fitted_is (fin s m e) f = rw (zero_is, not_below (fin s m e) f.0)

pub held : (x : Float) (n : ℕ) → FitsDurationSecs x → n ≡ nanos_of_secs x → n < 2 ^ 64 → Ok (ns n) ≡ from_seconds x
unfolding fitted
held x n f e h = rw (← fitted_is x f, ← e, lt-ltb n (2 ^ 64) h)

pub not_held : (x : Float) (n : ℕ) → FitsDurationSecs x → n ≡ nanos_of_secs x → (n < 2 ^ 64 → ⊥) → Err Arithmetic ≡ from_seconds x
unfolding fitted
not_held x n f e h = rw (← fitted_is x f, ← e, le-ltb n (2 ^ 64) (omega (arith, h)))

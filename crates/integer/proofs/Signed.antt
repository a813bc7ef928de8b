-- Laws on whole numbers that an i64 holds, from -2^63 to 2^63 - 1. Assumes nothing.
use Rattle.std.specs.Prelude.{◌≡◌, ◌^◌, Bool, true, false, ℤ, pos, negsuc, unsigned_abs, Option, Some, None, Ok, Err, FitsSigned}
use Rattle.std.specs.Option.{SomeIff, ok_or}
use Rattle.std.specs.Int.{FitsUnsignedBits}
use Rattle.std.specs.Int.Signed.{mag}
use Rattle.std.proofs.Common.{refl, lt-ltb, ltb-true, arith}
use Rattle.refusal.specs.declared.Refusal.TheVariants.{Arithmetic}
use Rattle.integer.specs.Fitted.{in_i64, fitted, unsigned}
use mir.Syntax.{w64}
use mir.Val.{SFits, to_z, of_z}
use mir.ValLaws.{to_z-of_z}

-- z as the machine reads it from its bits
abbrev read : ℤ → ℤ
read z = to_z w64 (of_z w64 z)

pub read_is : {z : ℤ} → SFits w64 z → read z ≡ z
read_is {z} f = to_z-of_z w64 z f

-- ---- what std's checked arithmetic and conversions answer

not_held : (z : ℤ) → (FitsSigned w64 z → ⊥) → in_i64 z ≡ false
unfolding in_i64
not_held z n = go (in_i64 z) refl
  where
    go : (b : Bool) → in_i64 z ≡ b → b ≡ false
    go false e = refl
    go true e = absurd (n (record { sfits = ltb-true (mag z) (2 ^ 63) e }))

pub fitted_from : (z : ℤ) → FitsSigned w64 z → Ok z ≡ fitted z
unfolding fitted in_i64
fitted_from z f = rw (lt-ltb (mag z) (2 ^ 63) f.sfits)

pub not_fitted : (z : ℤ) → (FitsSigned w64 z → ⊥) → Err Arithmetic ≡ fitted z
unfolding fitted
not_fitted z n = rw (not_held z n)

pub fitted_by : (r : Option ℤ) (z : ℤ) → SomeIff r (FitsSigned w64 z) z → ok_or r Arithmetic ≡ fitted z
fitted_by (Some x) z h = rw h.1 (fitted_from z h.0)
fitted_by None z n = not_fitted z n

pub unsigned_from : (z : ℤ) → FitsUnsignedBits 64 z → Ok (unsigned_abs z) ≡ unsigned z
unfolding unsigned
unsigned_from (pos n) f = refl
unsigned_from (negsuc n) f = absurd f

-- an i64 that fits no usize is negative
pub not_unsigned : (z : ℤ) → FitsSigned w64 z → (FitsUnsignedBits 64 z → ⊥) → Err Arithmetic ≡ unsigned z
unfolding unsigned
not_unsigned (pos n) f h = absurd (h (omega (arith, f.sfits)))
not_unsigned (negsuc n) f h = refl

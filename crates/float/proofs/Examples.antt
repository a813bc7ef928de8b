-- Worked examples of the definitions in specs/, by bit patterns, which antt computes. They test the definitions; no proof cites them.
use Rattle.std.specs.Prelude.{◌≡◌, ℕ, ◌-◌, ◌^◌, true, false, List, [], ◌∷◌, map, pos, negsuc, refl, Float, Some, None, Ok, Err}
use Rattle.std.specs.Float.{binary64}
use Rattle.std.specs.Float.Ieee.{of_bits, to_bits, is_nan, eq, lt, le, round, to_signed, to_unsigned}
use Rattle.float.specs.Rounded.{bits}
use Rattle.float.specs.Rust.{magnitude, minimum, maximum, ceiling, half_away, sign_bit}
use Rattle.std.specs.Ordering.{float_partial_cmp}
use Rattle.refusal.specs.declared.Refusal.TheVariants.{Arithmetic}
use Rattle.float.specs.Answer.{clamped}
use Rattle.std.specs.declared.cmp.Ordering.TheVariants.{Less, Equal, Greater}

each : (Float → Float) → List ℕ → List ℕ
each f = map (λ b. to_bits binary64 (f (bits b)))

-- abs of -0.0, -1.0, minus infinity, a NaN with its sign set
abs_examples :
    each magnitude (0x8000000000000000 ∷ 0xBFF0000000000000 ∷ 0xFFF0000000000000 ∷ 0xFFF8000000000001 ∷ []) ≡
    0 ∷ 0x3FF0000000000000 ∷ 0x7FF0000000000000 ∷ 0x7FF8000000000000 ∷ []
unfolding each magnitude of_bits to_bits
abs_examples = refl

-- ceil of the smallest subnormal, 1.5, -0.5, -1.5, 2^52 + 1, infinity
ceil_examples :
    each ceiling (1 ∷ 0x3FF8000000000000 ∷ 0xBFE0000000000000 ∷ 0xBFF8000000000000 ∷ 0x4330000000000001 ∷ 0x7FF0000000000000 ∷ []) ≡
    0x3FF0000000000000 ∷ 0x4000000000000000 ∷ 0x8000000000000000 ∷ 0xBFF0000000000000 ∷ 0x4330000000000001 ∷ 0x7FF0000000000000 ∷ []
unfolding each ceiling of_bits to_bits round
ceil_examples = refl

-- round of 0.5, the float below it, 2.5, -0.5, -0.4, 2^52 + 1
round_examples :
    each half_away (0x3FE0000000000000 ∷ 0x3FDFFFFFFFFFFFFF ∷ 0x4004000000000000 ∷ 0xBFE0000000000000 ∷ 0xBFD999999999999A ∷ 0x4330000000000001 ∷ []) ≡
    0x3FF0000000000000 ∷ 0 ∷ 0x4008000000000000 ∷ 0xBFF0000000000000 ∷ 0x8000000000000000 ∷ 0x4330000000000001 ∷ []
unfolding each half_away of_bits to_bits round
round_examples = refl

-- min and max of 1.0 with a NaN on either side, and of the two zeros
min_examples :
    each (minimum (bits 0x7FF8000000000000)) (0x3FF0000000000000 ∷ []) ≡ 0x3FF0000000000000 ∷ []
    × each (minimum (bits 0x3FF0000000000000)) (0x7FF8000000000000 ∷ 0x4000000000000000 ∷ 0 ∷ []) ≡ 0x3FF0000000000000 ∷ 0x3FF0000000000000 ∷ 0 ∷ []
    × each (minimum (bits 0)) (0x8000000000000000 ∷ []) ≡ 0 ∷ []
unfolding each minimum of_bits to_bits is_nan lt
min_examples = (refl, refl, refl)

max_examples :
    each (maximum (bits 0x7FF8000000000000)) (0x3FF0000000000000 ∷ []) ≡ 0x3FF0000000000000 ∷ []
    × each (maximum (bits 0x3FF0000000000000)) (0x7FF8000000000000 ∷ 0x4000000000000000 ∷ 0 ∷ []) ≡
    0x3FF0000000000000 ∷ 0x4000000000000000 ∷ 0x3FF0000000000000 ∷ []
    × each (maximum (bits 0x8000000000000000)) (0 ∷ []) ≡ 0x8000000000000000 ∷ []
unfolding each maximum of_bits to_bits is_nan lt
max_examples = (refl, refl, refl)

-- clamp between 1.0 and 2.0; a NaN stays; a lower bound above the upper and a NaN bound are refused
clamp_examples :
    clamped (bits 0) (bits 0x3FF0000000000000) (bits 0x4000000000000000) ≡ Ok (bits 0x3FF0000000000000)
    × clamped (bits 0x7FF8000000000000) (bits 0x3FF0000000000000) (bits 0x4000000000000000) ≡ Ok (bits 0x7FF8000000000000)
    × clamped (bits 0) (bits 0x4000000000000000) (bits 0x3FF0000000000000) ≡ Err Arithmetic
    × clamped (bits 0) (bits 0x7FF8000000000000) (bits 0x3FF0000000000000) ≡ Err Arithmetic
unfolding clamped of_bits lt le
clamp_examples = (refl, refl, refl, refl)

-- ---- sign and order

-- -infinity, -1, the largest negative subnormal, -0.0, 0.0, 1, infinity
abbrev ascending : List ℕ
ascending = 0xFFF0000000000000 ∷ 0xBFF0000000000000 ∷ 0x8000000000000001 ∷ 0x8000000000000000 ∷ 0 ∷ 0x3FF0000000000000 ∷ 0x7FF0000000000000 ∷ []

-- is_sign_negative of each; of NaN patterns with the sign clear and set
sign_examples :
    map (λ b. sign_bit (bits b)) ascending ≡ true ∷ true ∷ true ∷ true ∷ false ∷ false ∷ false ∷ []
    × map (λ b. sign_bit (bits b)) (0x7FF8000000000000 ∷ 0xFFF8000000000001 ∷ []) ≡ false ∷ false ∷ []
unfolding sign_bit of_bits
sign_examples = (refl, refl)

-- -infinity, -0.0, 0.0, infinity and NaN against each; NaN against NaN
order_examples :
    map (λ b. float_partial_cmp (bits 0xFFF0000000000000) (bits b)) ascending ≡ map Some (Equal ∷ Less ∷ Less ∷ Less ∷ Less ∷ Less ∷ Less ∷ [])
    × map (λ b. float_partial_cmp (bits 0x8000000000000000) (bits b)) ascending ≡ map Some (Greater ∷ Greater ∷ Greater ∷ Equal ∷ Equal ∷ Less ∷ Less ∷ [])
    × map (λ b. float_partial_cmp (bits 0) (bits b)) ascending ≡ map Some (Greater ∷ Greater ∷ Greater ∷ Equal ∷ Equal ∷ Less ∷ Less ∷ [])
    × map (λ b. float_partial_cmp (bits 0x7FF0000000000000) (bits b)) ascending ≡ map Some (Greater ∷ Greater ∷ Greater ∷ Greater ∷ Greater ∷ Greater ∷ Equal ∷ [])
    × map (λ b. float_partial_cmp (bits 0x7FF8000000000000) (bits b)) ascending ≡ map (λ b. None) ascending
    × map (λ b. float_partial_cmp (bits b) (bits 0x7FF8000000000000)) (0 ∷ 0x7FF0000000000000 ∷ 0x7FF8000000000000 ∷ []) ≡ None ∷ None ∷ None ∷ []
unfolding eq lt of_bits
order_examples = (refl, refl, refl, refl, refl, refl)

-- ---- casts

-- `as u64` of -1.5, -0.5, 1.5, the float below 2^64, 2^64, infinity, NaN
unsigned_examples :
    map (λ b. to_unsigned 64 (bits b))
    (0xBFF8000000000000 ∷ 0xBFE0000000000000 ∷ 0x3FF8000000000000 ∷ 0x43EFFFFFFFFFFFFF ∷ 0x43F0000000000000 ∷ 0x7FF0000000000000 ∷ 0x7FF8000000000000 ∷ []) ≡
    0 ∷ 0 ∷ 1 ∷ (2 ^ 64 - 2048) ∷ (2 ^ 64 - 1) ∷ (2 ^ 64 - 1) ∷ 0 ∷ []
unfolding to_unsigned of_bits
unsigned_examples = refl

-- `as i64` of -infinity, -2^63, -1.5, -0.5, 1.5, 2^63, NaN
signed_examples :
    map (λ b. to_signed 63 (bits b))
    (0xFFF0000000000000 ∷ 0xC3E0000000000000 ∷ 0xBFF8000000000000 ∷ 0xBFE0000000000000 ∷ 0x3FF8000000000000 ∷ 0x43E0000000000000 ∷ 0x7FF8000000000000 ∷ []) ≡
    negsuc (2 ^ 63 - 1) ∷ negsuc (2 ^ 63 - 1) ∷ negsuc 0 ∷ pos 0 ∷ pos 1 ∷ pos (2 ^ 63 - 1) ∷ pos 0 ∷ []
unfolding to_signed of_bits
signed_examples = refl

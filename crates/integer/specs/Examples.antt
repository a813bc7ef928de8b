-- Worked examples of the definitions beside this file, at both ends of i64 and u64, which antt computes. They test the definitions; no proof cites them.
use Rattle.std.specs.Prelude.{◌≡◌, ◌-◌, ◌^◌, [], ◌∷◌, map, ℤ, pos, negsuc, ◌+ℤ◌, ◌-ℤ◌, ◌*ℤ◌, unsigned_abs, Result, Ok, Err}
use Rattle.std.specs.Prelude.{refl}
use Rattle.std.specs.Int.{int_max}
use Rattle.std.specs.Ordering.{int_cmp}
use Rattle.std.specs.declared.cmp.Ordering.TheVariants.{Less, Equal, Greater}
use Rattle.integer.specs.Fitted.{in_i64, fitted, unsigned}
use Rattle.refusal.specs.declared.Refusal.{Refusal}
use Rattle.refusal.specs.declared.Refusal.TheVariants.{Arithmetic}

-- i64::MAX and i64::MIN
abbrev most : ℤ
most = pos 9223372036854775807

abbrev least : ℤ
least = negsuc 9223372036854775807

-- -1
abbrev minus_one : ℤ
minus_one = negsuc 0

abbrev refused : Result ℤ Refusal
refused = Err Arithmetic

-- MAX + 0, MAX + 1, MIN + 0, MIN - 1 as a sum, MAX + MIN, MAX + MAX, MIN + MIN
sum_examples :
    map (λ b. fitted (most +ℤ b)) (pos 0 ∷ pos 1 ∷ least ∷ most ∷ []) ≡ Ok most ∷ refused ∷ Ok minus_one ∷ refused ∷ []
    × map (λ b. fitted (least +ℤ b)) (pos 0 ∷ minus_one ∷ least ∷ []) ≡ Ok least ∷ refused ∷ refused ∷ []
unfolding fitted in_i64
sum_examples = (refl, refl)

-- MAX - -1, MAX - MAX, MIN - 1, MIN - MIN, 0 - MIN, -1 - MIN
difference_examples :
    map (λ b. fitted (most -ℤ b)) (minus_one ∷ most ∷ []) ≡ refused ∷ Ok (pos 0) ∷ []
    × map (λ b. fitted (least -ℤ b)) (pos 1 ∷ least ∷ []) ≡ refused ∷ Ok (pos 0) ∷ []
    × map (λ a. fitted (a -ℤ least)) (pos 0 ∷ minus_one ∷ []) ≡ refused ∷ Ok most ∷ []
unfolding fitted in_i64
difference_examples = (refl, refl, refl)

-- MIN × -1 is 2^63, MIN × 1; MAX × -1, MAX × 2; 2^31 and -2^31, each × 2^32 and × -2^32
product_examples :
    map (λ b. fitted (least *ℤ b)) (minus_one ∷ pos 0 ∷ pos 1 ∷ pos 2 ∷ []) ≡ refused ∷ Ok (pos 0) ∷ Ok least ∷ refused ∷ []
    × map (λ b. fitted (most *ℤ b)) (minus_one ∷ pos 1 ∷ pos 2 ∷ []) ≡ Ok (negsuc 9223372036854775806) ∷ Ok most ∷ refused ∷ []
    × map (λ b. fitted (pos (2 ^ 31) *ℤ b)) (pos (2 ^ 32) ∷ negsuc (2 ^ 32 - 1) ∷ []) ≡ refused ∷ Ok least ∷ []
    × map (λ b. fitted (negsuc (2 ^ 31 - 1) *ℤ b)) (pos (2 ^ 32) ∷ negsuc (2 ^ 32 - 1) ∷ []) ≡ Ok least ∷ refused ∷ []
unfolding fitted in_i64
product_examples = (refl, refl, refl, refl)

-- a u64 as an i64: 0, 2^63 - 1, 2^63, 2^64 - 1
from_examples : map (λ n. fitted (pos n)) (0 ∷ (2 ^ 63 - 1) ∷ (2 ^ 63) ∷ (2 ^ 64 - 1) ∷ []) ≡ Ok (pos 0) ∷ Ok most ∷ refused ∷ refused ∷ []
unfolding fitted in_i64
from_examples = refl

-- an i64 as a usize
to_examples :
    map unsigned (pos 0 ∷ most ∷ minus_one ∷ least ∷ []) ≡
    Ok 0 ∷ Ok 9223372036854775807 ∷ Err Arithmetic ∷ Err Arithmetic ∷ []
unfolding unsigned
to_examples = refl

-- without the sign: 2^63 for MIN (i64::unsigned_abs)
magnitude_examples : map unsigned_abs (pos 0 ∷ minus_one ∷ most ∷ least ∷ []) ≡ 0 ∷ 1 ∷ 9223372036854775807 ∷ 9223372036854775808 ∷ []
magnitude_examples = refl

-- the larger, and the order, of MIN and MAX with themselves, with each other, and about 0 (i64::max, i64::cmp)
order_examples :
    map (int_max least) (least ∷ most ∷ []) ≡ least ∷ most ∷ []
    × map (int_max most) (least ∷ most ∷ []) ≡ most ∷ most ∷ []
    × map (int_cmp least) (least ∷ minus_one ∷ most ∷ []) ≡ Equal ∷ Less ∷ Less ∷ []
    × map (int_cmp most) (most ∷ pos 0 ∷ least ∷ []) ≡ Equal ∷ Greater ∷ Greater ∷ []
    × map (int_cmp minus_one) (pos 0 ∷ minus_one ∷ negsuc 1 ∷ []) ≡ Less ∷ Equal ∷ Greater ∷ []
order_examples = (refl, refl, refl, refl, refl)

-- Worked examples of the definitions beside this file, which antt computes. The stated bits are those that oracle/src/steps.rs gives.
-- They test the definitions; no proof cites them.
use Rattle.std.specs.Prelude.{ℕ, zero, suc, ◌≡◌, refl, true, false, List, [], ◌∷◌, map, Float}
use Rattle.std.specs.Result.{result_unwrap_or}
use Rattle.std.specs.Float.{binary64}
use Rattle.std.specs.Float.Ieee.{add, div, eq, le, lt, mul, of_bits, of_int, sub, to_bits}
use Rattle.float.specs.Rounded.{bits, one, ◌⊗◌}
use Rattle.refusal.specs.Outcome.{number}
use Rattle.logarithm.specs.Ln.{logarithm}
use Rattle.logarithm.specs.Power.{power, ninetenths, weight}

-- ---- the logarithm

logarithms : List ℕ → List ℕ
logarithms = map (λ b. to_bits binary64 (result_unwrap_or (logarithm (bits b)) (bits 0)))

-- ln of 10, 0.5, 3 (not the nearest float), 10^-6, 1 - 10^-6
ordinary_arguments :
    logarithms (0x4024000000000000 ∷ 0x3FE0000000000000 ∷ 0x4008000000000000 ∷ 0x3EB0C6F7A0B5ED8D ∷ 0x3FEFFFFDE7210BE9 ∷ []) ≡
    0x40026BB1BBB55516 ∷ 0xBFE62E42FEFA39EF ∷ 0x3FF193EA7AAD030A ∷ 0xC02BA18A998FFFA0 ∷ 0xBEB0C6F82D74D230 ∷ []
unfolding logarithms logarithm add div le lt mul of_bits of_int sub to_bits
ordinary_arguments = refl

-- the smallest normal and the largest finite, the neighbours of 1, and the last argument with k = -1 and the first with k = 0
arguments_at_an_end :
    logarithms (0x0010000000000000 ∷ 0x7FEFFFFFFFFFFFFF ∷ 0x3FEFFFFFFFFFFFFF ∷ 0x3FF0000000000001 ∷ 0x3FE6A09DFFFFFFFF ∷ 0x3FE6A09E00000000 ∷ []) ≡
    0xC086232BDD7ABCD2 ∷ 0x40862E42FEFA39EF ∷ 0xBCA0000000000000 ∷ 0x3CAFFFFFFFFFFFFF ∷ 0xBFD62E4420E1FF13 ∷ 0xBFD62E4420E1FF10 ∷ []
unfolding logarithms logarithm add div le lt mul of_bits of_int sub to_bits
arguments_at_an_end = refl

refusal : List ℕ → List ℕ
refusal = map (λ b. number (logarithm (bits b)))

-- refused: both zeros, the largest subnormal, -1, both infinities, a NaN; taken: the smallest normal and the largest finite
refusals :
    refusal (0 ∷ 0x8000000000000000 ∷ 0x000FFFFFFFFFFFFF ∷ 0xBFF0000000000000 ∷ []) ≡ 6 ∷ 6 ∷ 6 ∷ 6 ∷ []
    × refusal (0x7FF0000000000000 ∷ 0xFFF0000000000000 ∷ 0x7FF8000000000000 ∷ []) ≡ 6 ∷ 6 ∷ 6 ∷ []
    × refusal (0x0010000000000000 ∷ 0x7FEFFFFFFFFFFFFF ∷ []) ≡ 0 ∷ 0 ∷ []
unfolding refusal logarithm le lt of_bits
refusals = (refl, refl, refl)

-- ---- powers and weights

-- 0.9 to the powers 0, 2, 14, 100 and 2^32 - 1; -1.0 to the power 2^32 - 1; a NaN to the power 0; 2.0 to the power 1024
powers :
    map (λ n. to_bits binary64 (power ninetenths n)) (0 ∷ 2 ∷ 14 ∷ 100 ∷ 4294967295 ∷ []) ≡
    0x3FF0000000000000 ∷ 0x3FE9EB851EB851EC ∷ 0x3FCD484471283D50 ∷ 0x3EFBDA056ED49422 ∷ 0 ∷ []
    × power (bits 0xBFF0000000000000) 4294967295 ≡ bits 0xBFF0000000000000
    × power (bits 0x7FF8000000000000) 0 ≡ one
    × power (bits 0x4000000000000000) 1024 ≡ bits 0x7FF0000000000000
unfolding power mul of_bits to_bits
powers = (refl, refl, refl, refl)

-- the near miss: 1 multiplied by 0.9, age times
repeated : ℕ → Float
repeated zero = one
repeated (suc age) = repeated age ⊗ ninetenths

abbrev ages : List ℕ
ages = 0 ∷ 1 ∷ 2 ∷ 3 ∷ 4 ∷ 5 ∷ 6 ∷ 7 ∷ 8 ∷ 9 ∷ 10 ∷ 11 ∷ 12 ∷ 13 ∷ 14 ∷ []

-- it differs at the ages 13 and 14
repeated_differs :
    map (λ age. eq (repeated age) (weight age)) ages ≡
    true ∷ true ∷ true ∷ true ∷ true ∷ true ∷ true ∷ true ∷ true ∷ true ∷ true ∷ true ∷ true ∷ false ∷ false ∷ []
unfolding repeated weight eq mul of_bits
repeated_differs = refl

oldest_weights :
    map (λ age. to_bits binary64 (weight age)) (12 ∷ 13 ∷ 14 ∷ 15 ∷ 4294967296 ∷ []) ≡
    0x3FD2135355A70FB9 ∷ 0x3FD04497CD165AF4 ∷ 0x3FCD484471283D50 ∷ 0 ∷ 0 ∷ []
unfolding weight mul of_bits to_bits
oldest_weights = refl

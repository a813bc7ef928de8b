-- Worked examples of the definitions beside this file, by bit patterns, which antt computes; those of `from_seconds` answer as Rust's
-- Duration::try_from_secs_f64 does. They test the definitions; no proof cites them.
use Rattle.std.specs.Prelude.{◌≡◌, ℕ, ◌-◌, ◌^◌, List, [], ◌∷◌, map, refl, Result, Ok, Err}
use Rattle.std.specs.Float.Ieee.{add, div, lt, mul, of_bits, of_int}
use Rattle.float.specs.Rounded.{◌⊗◌, bits}
use Rattle.refusal.specs.declared.Refusal.{Refusal}
use Rattle.refusal.specs.declared.Refusal.TheVariants.{Arithmetic}
use Rattle.duration.specs.Nanos.{fitted, minus, over}
use Rattle.duration.specs.Seconds.{seconds, nearest_nanos, from_seconds}
use Rattle.duration.specs.declared.Duration.{Duration}

-- n ns
abbrev ns : ℕ → Result Duration Refusal
ns n = Ok (record { nanos = n })

abbrev refused : Result Duration Refusal
refused = Err Arithmetic

each : List ℕ → List (Result Duration Refusal)
each = map (λ b. from_seconds (bits b))

-- 1/1024 s is 976562.5 ns and 3/1024 s is 2929687.5 ns: each tie goes to the even one
tie_examples : each (0x3F50000000000000 ∷ 0x3F68000000000000 ∷ []) ≡ ns 976562 ∷ ns 2929688 ∷ []
unfolding each from_seconds nearest_nanos fitted lt of_bits
tie_examples = refl

-- 0.3, the floats at 0.5e-9 and 2.5e-9, which are a little above them, at 1.5e-9, a little below, the smallest subnormal, the float below 1.0
near_examples :
    each (0x3FD3333333333333 ∷ 0x3E012E0BE826D695 ∷ 0x3E19C511DC3A41DF ∷ 0x3E25798EE2308C3A ∷ 1 ∷ 0x3FEFFFFFFFFFFFFF ∷ []) ≡
    ns 300000000 ∷ ns 1 ∷ ns 1 ∷ ns 3 ∷ ns 0 ∷ ns 1000000000 ∷ []
unfolding each from_seconds nearest_nanos fitted lt of_bits
near_examples = refl

product_example : from_seconds (bits 0x4043333333333333 ⊗ bits 0x4000000000000000) ≡ ns 76800000000
unfolding from_seconds nearest_nanos fitted lt mul of_bits
product_example = refl

-- the largest float below 2^64 ns, which is 18446744073.70955, and the next one
limit_examples : each (0x42112E0BE826D694 ∷ 0x42112E0BE826D695 ∷ []) ≡ ns 18446744073709548950 ∷ refused ∷ []
unfolding each from_seconds nearest_nanos fitted lt of_bits
limit_examples = refl

-- -0.0, -1e-300, NaN, the infinities
sign_examples :
    each (0x8000000000000000 ∷ 0x81A56E1FC2F8F359 ∷ 0x7FF8000000000000 ∷ 0x7FF0000000000000 ∷ 0xFFF0000000000000 ∷ []) ≡
    ns 0 ∷ refused ∷ refused ∷ refused ∷ refused ∷ []
unfolding each from_seconds nearest_nanos fitted lt of_bits
sign_examples = refl

-- as_secs_f64 of 0 ns, 3 ns, the last below a second, a second and 1 ns, 2^64 - 1 ns
seconds_examples :
    map (λ n. seconds (record { nanos = n })) (0 ∷ 3 ∷ 999999999 ∷ 1000000001 ∷ (2 ^ 64 - 1) ∷ []) ≡
    map bits (0 ∷ 0x3E29C511DC3A41DF ∷ 0x3FEFFFFFFF768FA1 ∷ 0x3FF000000044B830 ∷ 0x42112E0BE826D695 ∷ [])
unfolding seconds add div of_bits of_int
seconds_examples = refl

-- in ns: 2^64 - 1 and one more; 5 - 5 and 4 - 5; 7 / 2 and 7 / 0
nanos_examples :
    map fitted ((2 ^ 64 - 1) ∷ (2 ^ 64) ∷ []) ≡ ns (2 ^ 64 - 1) ∷ refused ∷ []
    × map (λ n. minus n 5) (5 ∷ 4 ∷ []) ≡ ns 0 ∷ refused ∷ []
    × map (over 7) (2 ∷ 0 ∷ []) ≡ ns 3 ∷ refused ∷ []
unfolding fitted minus over
nanos_examples = (refl, refl, refl)

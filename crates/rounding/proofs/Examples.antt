-- Worked examples of the definitions in specs/, by bit patterns, which antt computes. They test the definitions; no proof cites them.
use Rattle.std.specs.Prelude.{ℕ, ◌≡◌, refl, false, List, [], ◌∷◌}
use Rattle.std.specs.Float.Ieee.{add, div, eq, lt, mul, of_bits, of_int, sub, to_bits}
use Rattle.std.specs.Float.{binary64}
use Rattle.bandwidth.specs.Rate as Rate
use Rattle.config.specs.Config as Config
use Rattle.logarithm.specs.Power.{weight}
use Rattle.rounding.specs.Exact.{Measured}
use Rattle.rounding.specs.Ratio.{loss_ratio, loss_ceiling}

abbrev of_age : ℕ → ℕ → ℕ → Measured
of_age age total lost = record { age = age; total = total; lost = lost }

-- no observation
no_total : to_bits binary64 (loss_ratio []) ≡ 0
unfolding loss_ratio eq of_bits to_bits
no_total = refl

-- one observation: all of 1 lost
all_lost : to_bits binary64 (loss_ratio (of_age 0 1 1 ∷ [])) ≡ 0x3FF0000000000000
unfolding loss_ratio weight add div eq mul of_bits of_int to_bits
all_lost = refl

-- one observation: 50 of 1,000 lost sets no ceiling, 100 of 1,000 one of 2,000,000 bit/s
no_ceiling : lt Config.instant_upper_bound_loss_offset (loss_ratio (of_age 0 1000 50 ∷ [])) ≡ false
unfolding loss_ratio weight add div eq lt mul of_bits of_int
no_ceiling = refl

two_million : to_bits binary64 (loss_ceiling (loss_ratio (of_age 0 1000 100 ∷ []))) ≡ 0x413E848000000000
unfolding loss_ratio loss_ceiling Rate.over weight add div eq mul of_bits of_int sub to_bits
two_million = refl

-- a full window in slot order, beside what another implementation of IEEE 754 gives
full : List Measured
full =
    of_age 6 234107653877 37637670706
    ∷ of_age 5 996681516149 49905327342
    ∷ of_age 4 641520749048 203361809040
    ∷ of_age 3 105380810795 11419251609
    ∷ of_age 2 902254243635 17747779078
    ∷ of_age 1 54335349840 13711114650
    ∷ of_age 0 434439589175 11378383331
    ∷ of_age 14 642644932277 206248322407
    ∷ of_age 13 692448538713 34892883457
    ∷ of_age 12 622026593455 69634180887
    ∷ of_age 11 66247805478 13717553115
    ∷ of_age 10 605979998169 37481787865
    ∷ of_age 9 262293031823 50549591570
    ∷ of_age 8 461423994714 104679508800
    ∷ of_age 7 94650323160 24544671628
    ∷ []

full_ratio : to_bits binary64 (loss_ratio full) ≡ 0x3FBD28CA356FAE59
unfolding full loss_ratio weight add div eq mul of_bits of_int to_bits
full_ratio = refl

full_ceiling : to_bits binary64 (loss_ceiling (loss_ratio full)) ≡ 0x4137E0B7BD793C3F
unfolding full loss_ratio loss_ceiling Rate.over weight add div eq mul of_bits of_int sub to_bits
full_ceiling = refl

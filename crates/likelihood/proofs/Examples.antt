-- Worked examples of the definitions in specs/, which antt computes. The stated bits are those that the oracle's functions give: the
-- Rust's, with the edits that oracle/README.md lists. They test the definitions; no proof cites them.
use Rattle.std.specs.Prelude.{ℕ, ◌≡◌, refl, Bool, true, false, List, [], ◌∷◌, map, Ok, Err, Float}
use Rattle.std.specs.Float.{binary64}
use Rattle.std.specs.Float.Ieee.{add, div, eq, is_nan, le, lt, mul, of_bits, of_int, sub, to_bits}
use Rattle.refusal.specs.declared.Refusal.TheVariants.{NoLogarithm}
use Rattle.float.specs.Rounded.{bits}
use Rattle.float.specs.Rust.{magnitude, maximum, minimum, sign_bit}
use Rattle.bandwidth.specs.declared.Bitrate.{Bitrate}
use Rattle.bandwidth.specs.Rate.{rate}
use Rattle.logarithm.specs.Ln.{logarithm}
use Rattle.logarithm.specs.Power.{power}
use Rattle.likelihood.specs.Feasible.{upper_bound, feasible}
use Rattle.likelihood.specs.Probability.{congested, probability}
use Rattle.likelihood.specs.Newton.{safe, add_derivatives, derivatives, newton}
use Rattle.likelihood.specs.Bias.{adjusted, bias}
use Rattle.likelihood.specs.Objective.{with_terms, terms, add_terms, objective}
use Rattle.likelihood.specs.declared.ChannelParameters.{ChannelParameters}
use Rattle.likelihood.specs.declared.Row.{Row}

each : (Float → Float) → List ℕ → List ℕ
each f = map (λ b. to_bits binary64 (f (bits b)))

abbrev bps : ℕ → Bitrate
bps b = rate (bits b)

abbrev candidate : ℕ → ℕ → ChannelParameters
candidate loss b = record { inherent_loss = bits loss; loss_limited_bandwidth = bps b }

-- 1,000,000 bit/s; 2,000,000 bit/s; -1,000,000 bit/s
abbrev million : ℕ
million = 0x412E848000000000

abbrev two_million : ℕ
two_million = 0x413E848000000000

abbrev minus_million : ℕ
minus_million = 0xC12E848000000000

-- 0.01; 0.1
abbrev hundredth : ℕ
hundredth = 0x3F847AE147AE147B

abbrev tenth : ℕ
tenth = 0x3FB999999999999A

-- ---- feasible

-- at both zeros, 1,000,000, 100,000 and -1,000,000 bit/s, infinity and a NaN
upper_bounds :
    each (λ x. upper_bound (rate x)) (0 ∷ 0x8000000000000000 ∷ million ∷ 0x40F86A0000000000 ∷ minus_million ∷ 0x7FF0000000000000 ∷ 0x7FF8000000000000 ∷ []) ≡
    0x3FF0000000000000 ∷ 0x3FF0000000000000 ∷ 0x3FC3333333333334 ∷ 0x3FF0000000000000 ∷ 0xBFA999999999999A ∷ 0x3FA999999999999A ∷ 0x3FF0000000000000 ∷ []
unfolding each upper_bound add div eq is_nan lt minimum of_bits to_bits
upper_bounds = refl

-- 0.01, 0, 0.5 and a NaN at 1,000,000 bit/s; 0.01 at -1,000,000 bit/s, where the upper bound is the lower of the two, and stays
feasible_losses :
    each (λ x. feasible (record { inherent_loss = x; loss_limited_bandwidth = bps million }))
    (hundredth ∷ 0 ∷ 0x3FE0000000000000 ∷ 0x7FF8000000000000 ∷ []) ≡
    hundredth ∷ 0x3F50624DD2F1A9FC ∷ 0x3FC3333333333334 ∷ 0x3F50624DD2F1A9FC ∷ []
    × feasible (candidate hundredth minus_million) ≡ bits 0xBFA999999999999A
unfolding each feasible upper_bound add div eq is_nan lt minimum maximum of_bits to_bits
feasible_losses = (refl, refl)

-- ---- loss probability

-- 0.01, 0, 1, -1, 3 and a NaN, sent at twice the limit; 0.01 and 0, sent at the limit; 0.01, sent at an infinite rate, and limited by a NaN
probabilities :
    each (λ x. probability x (bps million) (bps two_million))
    (hundredth ∷ 0 ∷ 0x3FF0000000000000 ∷ 0xBFF0000000000000 ∷ 0x4008000000000000 ∷ 0x7FF8000000000000 ∷ []) ≡
    0x3FE028F5C28F5C29 ∷ 0x3FE0000000000000 ∷ 0x3FEFFFFDE7210BE9 ∷ 0x3FE0000000000000 ∷ 0x3FEFFFFDE7210BE9 ∷ 0x7FF8000000000000 ∷ []
    × each (λ x. probability x (bps million) (bps million)) (hundredth ∷ 0 ∷ []) ≡ hundredth ∷ 0x3EB0C6F7A0B5ED8D ∷ []
    × each (λ x. probability (bits hundredth) (bps million) (rate x)) (0x7FF0000000000000 ∷ []) ≡ hundredth ∷ []
    × each (λ x. probability (bits hundredth) (rate x) (bps million)) (0x7FF8000000000000 ∷ []) ≡ hundredth ∷ []
unfolding each probability congested add div eq le lt mul of_bits sub to_bits
probabilities = (refl, refl, refl, refl)

-- ---- derivatives and Newton's step

abbrev row : Bool → ℕ → ℕ → ℕ → ℕ → ℕ → Row
row there weight lost received total sending =
    record { is_initialized = there; weight = bits weight; lost = bits lost; received = bits received; total = bits total; sending_rate = bps sending }

-- 100 of 1,000 bytes lost, sent at 2,000,000 bit/s; 50 of 3,000, one observation older, sent at 1,500,000 bit/s; an empty slot
rows : List Row
rows =
    row true 0x3FF0000000000000 tenth 0x3FECCCCCCCCCCCCD 0x3FF0000000000000 two_million ∷
    row true 0x3FECCCCCCCCCCCCD 0x3FA999999999999A 0x400799999999999A 0x4008000000000000 0x4136E36000000000 ∷
    row false 0 0 0 0 0xFFF0000000000000 ∷
    []

-- 0, -0, a NaN, 1, infinity, -1, minus infinity
safe_examples :
    each safe (0 ∷ 0x8000000000000000 ∷ 0x7FF8000000000000 ∷ 0x3FF0000000000000 ∷ 0x7FF0000000000000 ∷ 0xBFF0000000000000 ∷ 0xFFF0000000000000 ∷ []) ≡
    0xBEB0C6F7A0B5ED8D ∷ 0xBEB0C6F7A0B5ED8D ∷ 0xBEB0C6F7A0B5ED8D ∷ 0xBEB0C6F7A0B5ED8D ∷ 0xBEB0C6F7A0B5ED8D ∷ 0xBFF0000000000000 ∷ 0xFFF0000000000000 ∷ []
unfolding each safe sign_bit eq is_nan of_bits to_bits
safe_examples = refl

-- at 2,000,000 bit/s; without a row; from a NaN, where the second is safe again
derivatives_examples :
    derivatives rows (candidate hundredth two_million) ≡ record { first = bits 0x4025D1745D1745D1; second = bits 0xC096B6823BB5B720 }
    × derivatives [] (candidate hundredth million) ≡ record { first = bits 0; second = bits 0xBEB0C6F7A0B5ED8D }
    × derivatives rows (candidate 0x7FF8000000000000 million) ≡ record { first = bits 0x7FF8000000000000; second = bits 0xBEB0C6F7A0B5ED8D }
unfolding rows derivatives add_derivatives safe sign_bit probability congested power add div eq is_nan le lt mul of_bits sub to_bits
derivatives_examples = (refl, refl, refl)

-- a step within the bounds, one below them, and one from a NaN
newton_examples :
    newton rows (candidate hundredth two_million) ≡ candidate 0x3F9000EE769902E8 two_million
    × newton rows (candidate hundredth million) ≡ candidate 0x3F50624DD2F1A9FC million
    × newton rows (candidate 0x7FF8000000000000 million) ≡ candidate 0x3F50624DD2F1A9FC million
unfolding rows newton feasible upper_bound derivatives add_derivatives safe sign_bit probability congested minimum maximum power add
    div eq is_nan le lt mul of_bits sub to_bits
newton_examples = (refl, refl, refl)

-- ---- bias

-- 0, 0.05, 0.1, 0.2, 0.3 and 1
ratios : List ℕ
ratios = 0 ∷ 0x3FA999999999999A ∷ tenth ∷ 0x3FC999999999999A ∷ 0x3FD3333333333333 ∷ 0x3FF0000000000000 ∷ []

-- 0.0002 and 0.02 at these ratios; at an infinite ratio, infinity over infinity, and at a NaN
adjusted_examples :
    each (λ x. adjusted x (bits 0x3F2A36E2EB1C432D)) ratios ≡
    0x3F29F471259D3FFA ∷ 0x3F29DE95D3CE6AB7 ∷ 0x3F29B34CE68019B3 ∷ 0 ∷ 0xBF29B34CE68019B3 ∷ 0xBF2A2626A9682979 ∷ []
    × each (λ x. adjusted x (bits 0x3F947AE147AE147B)) ratios ≡
    0x3F9446F86562D9FB ∷ 0x3F9435E50D79435E ∷ 0x3F94141414141414 ∷ 0 ∷ 0xBF94141414141414 ∷ 0xBF946DCE34596066 ∷ []
    × each (λ x. adjusted x (bits 0x3F947AE147AE147B)) (0x7FF0000000000000 ∷ 0x7FF8000000000000 ∷ []) ≡
    0x7FF8000000000000 ∷ 0x7FF8000000000000 ∷ []
unfolding each adjusted ratios magnitude add div mul of_bits sub to_bits
adjusted_examples = (refl, refl, refl)

-- at the ratio 0.1: 1,000,000 and -0.5 bit/s, infinity, a NaN; refused at -1 bit/s
bias_examples :
    map (λ b. bias (bps b) (bits tenth)) (million ∷ 0xBFE0000000000000 ∷ 0x7FF0000000000000 ∷ 0x7FF8000000000000 ∷ 0xBFF0000000000000 ∷ []) ≡
    Ok (bits 0x40688B2DA9037CD7) ∷ Ok (bits 0xBF8C091001EDE987) ∷ Ok (bits 0) ∷ Ok (bits 0)
    ∷ Err NoLogarithm ∷ []
unfolding bias adjusted logarithm magnitude add div le lt mul of_bits of_int sub to_bits
bias_examples = refl

-- ---- objective

-- by packets: 1 of 10 lost, sent at 2,000,000 bit/s; 3 of 30, one observation older, sent at 1,500,000 bit/s; an empty slot
packet_rows : List Row
packet_rows =
    row true 0x3FF0000000000000 0x3FF0000000000000 0x4022000000000000 0x4024000000000000 two_million ∷
    row true 0x3FECCCCCCCCCCCCD 0x4008000000000000 0x403B000000000000 0x403E000000000000 0x4136E36000000000 ∷
    row false 0 0 0 0 0xFFF0000000000000 ∷
    []

-- at the ratio 0.1: two candidates, one of an infinite rate, and refused for a NaN and for a rate of -1 bit/s
objective_examples :
    map (objective true rows (bits tenth))
    (candidate hundredth million ∷ candidate 0x3FE0000000000000 0x41324F8000000000 ∷ candidate hundredth 0x7FF0000000000000 ∷ []) ≡
    Ok (bits 0x3FE7303F4DB8C88F) ∷ Ok (bits 0x3FEBC6E44BFD0D5C) ∷ Ok (bits 0xBF470D34D5CD008D) ∷ []
    × map (objective false packet_rows (bits tenth))
    (candidate hundredth million ∷ candidate 0x3FE0000000000000 0x41324F8000000000 ∷ candidate hundredth 0x7FF0000000000000 ∷ []) ≡
    Ok (bits 0x40BC4CE737A9C32A) ∷ Ok (bits 0x40C0F4999D82DCC6) ∷ Ok (bits 0xC0315FB1BDDBA033) ∷ []
    × objective true rows (bits tenth) (candidate 0x7FF8000000000000 million) ≡ Err NoLogarithm
    × objective false rows (bits tenth) (candidate hundredth 0xBFF0000000000000) ≡ Err NoLogarithm
unfolding rows packet_rows objective add_terms terms with_terms bias adjusted logarithm magnitude probability congested add div eq le lt mul
    of_bits of_int sub to_bits
objective_examples = (refl, refl, refl, refl)

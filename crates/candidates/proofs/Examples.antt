-- Worked examples of the definitions in specs/, by bit patterns, which antt computes; the answers are those of the Rust's expressions.
-- They test the definitions; no proof cites them.
use Rattle.std.specs.Prelude.{ℕ, ◌≡◌, refl, Bool, true, false, List, [], ◌∷◌, map, Some, None, Ok, Err, Float}
use Rattle.std.specs.Bool.{then_some}
use Rattle.std.specs.Float.{inf}
use Rattle.std.specs.Float.Ieee.{add, div, eq, is_nan, le, lt, mul, of_bits, of_int, sub, to_bits}
use Rattle.refusal.specs.declared.Refusal.TheVariants.{NoLogarithm}
use Rattle.float.specs.Rounded.{bits}
use Rattle.float.specs.Rust.{magnitude, maximum, minimum, sign_bit}
use Rattle.bandwidth.specs.Rate.{rate, most_rate, smaller, larger, limited, plus, times}
use Rattle.bandwidth.specs.declared.Bitrate.{Bitrate}
use Rattle.duration.specs.Seconds.{seconds}
use Rattle.duration.specs.Nanos.{ns}
use Rattle.time.specs.Delta as Delta
use Rattle.time.specs.Time as Time
use Rattle.time.specs.declared.TimeDelta.TheVariants.{Positive}
use Rattle.time.specs.declared.Timestamp.{Timestamp}
use Rattle.time.specs.declared.Timestamp.TheVariants.{DistantPast, Exact}
use Rattle.logarithm.specs.Ln.{logarithm}
use Rattle.likelihood.specs.Bias.{adjusted, bias}
use Rattle.likelihood.specs.Feasible.{feasible, upper_bound as upper_bound_of_loss}
use Rattle.likelihood.specs.Newton.{derivatives, newton, safe}
use Rattle.likelihood.specs.Objective.{objective}
use Rattle.likelihood.specs.declared.ChannelParameters.{ChannelParameters}
use Rattle.candidates.specs.Bound.{at_most, capacity, within, in_window, acceleration, upper_bound}
use Rattle.candidates.specs.Candidate.{above, bandwidths, cut, scaled}
use Rattle.candidates.specs.Choice.{better, choice, judged, start}

-- ---- rates, in Mbit/s

abbrev half : Bitrate
half = rate (bits 0x411E848000000000)

abbrev one : Bitrate
one = rate (bits 0x412E848000000000)

abbrev one_and_half : Bitrate
one_and_half = rate (bits 0x4136E36000000000)

abbrev two : Bitrate
two = rate (bits 0x413E848000000000)

abbrev three : Bitrate
three = rate (bits 0x4146E36000000000)

abbrev infinite : Bitrate
infinite = rate (inf false)

-- ---- the upper bound

-- the capacity counts in ALR, where it is valid
capacities :
    map (capacity true) (Some one ∷ Some infinite ∷ None ∷ []) ≡ one ∷ infinite ∷ infinite ∷ []
    × capacity false (Some one) ≡ infinite
unfolding at_most capacity smaller minimum is_nan lt of_bits
capacities = (refl, refl)

-- a limit of 1.5 where loss limits the rate, a ceiling of 3, and these: delay estimate, acknowledged rate, times of send and reduction
bound : Bool → Bitrate → Bitrate → Timestamp → Timestamp → Bitrate
bound limited delay acknowledged last reduced =
    upper_bound
    (record {
      capacity = infinite;
      bandwidth_limit_in_current_window = then_some limited one_and_half;
      instant_upper_bound = three;
      delay_based_estimate = delay;
      acknowledged_bitrate = acknowledged;
      last_send_time = last;
      last_time_estimate_reduced = reduced;
    })

-- no acknowledged rate: the limit counts while loss limits the rate, the delay estimate where it is finite
bounds_without_acknowledged :
    bound true two infinite (Exact 0) (Exact 0) ≡ one_and_half
    × bound false two infinite (Exact 0) (Exact 0) ≡ two
    × bound false infinite infinite (Exact 0) (Exact 0) ≡ three
unfolding bound upper_bound within in_window at_most smaller minimum is_nan lt of_bits
bounds_without_acknowledged = (refl, refl, refl)

-- 1 acknowledged, and a send time before the reduction, which counts as 0 s after it; never reduced
bounds_with_acknowledged :
    bound false two one (Exact 10000000007) (Exact 20000000000) ≡ two
    × bound false two one (Exact 10000000007) DistantPast ≡ two
unfolding bound upper_bound within in_window acceleration at_most limited plus smaller times seconds Delta.difference Delta.in_seconds Delta.order
    Time.since minimum add div is_nan lt mul of_bits of_int
bounds_with_acknowledged = (refl, refl)

-- 0.300000007 s; 0.015 s, where 60.0 × 0.015 / 60.0 is the float below 0.015; 60 s; 61 s, which count as 60
accelerations :
    map (λ n. acceleration (Positive (ns n))) (300000007 ∷ 15000000 ∷ 60000000000 ∷ 61000000000 ∷ []) ≡
    bits 0x3FD333333AB75869 ∷ bits 0x3F8EB851EB851EB7 ∷ bits 0x404E000000000000 ∷ bits 0x404E000000000000 ∷ []
unfolding acceleration seconds Delta.in_seconds minimum add div is_nan lt mul of_bits of_int
accelerations = refl

-- ---- the candidates

-- the rates for these: current, bound, delay estimate, acknowledged rate
rates : Bitrate → Bitrate → Bitrate → Bitrate → List Bitrate
rates current upper delay acknowledged = map (cut current upper) (bandwidths current delay acknowledged)

-- six; the same under a bound below the current rate, which cuts to the current rate; a delay estimate equal to the current rate is no candidate;
-- nor is an infinite one, nor an infinite acknowledged rate
candidate_rates :
    rates one three two one ≡ rate (bits 0x412F20C000000000) ∷ one ∷ rate (bits 0x412CFDE000000000) ∷ two ∷ one ∷ two ∷ []
    × rates one half two one ≡ one ∷ one ∷ rate (bits 0x412CFDE000000000) ∷ one ∷ one ∷ one ∷ []
    × rates one three one one ≡ rate (bits 0x412F20C000000000) ∷ one ∷ rate (bits 0x412CFDE000000000) ∷ one ∷ []
    × rates one three infinite infinite ≡ rate (bits 0x412F20C000000000) ∷ one ∷ rate (bits 0x412CFDE000000000) ∷ []
unfolding rates above bandwidths cut limited scaled larger smaller times maximum minimum is_nan lt mul of_bits
candidate_rates = (refl, refl, refl, refl)

-- 123,456.7 bit/s: each product is rounded once
rounded_rates :
    rates (rate (bits 0x40FE240B33333333)) three infinite infinite ≡
    rate (bits 0x40FEBE5D5810624E) ∷ rate (bits 0x40FE240B33333333) ∷ rate (bits 0x40FCA23DD70A3D70) ∷ []
unfolding rates above bandwidths cut limited scaled larger smaller times maximum minimum is_nan lt mul of_bits
rounded_rates = refl

-- ---- the limit of 10^15 bit/s (Q-5)

abbrev huge : Bitrate
huge = rate (bits 0x7E37E43C8800759C)

-- at the limit the raised rate is the current one; 1.02 times 9.9 × 10^14 passes it; a current rate beyond it, which no setter takes, comes down to it;
-- delay estimate and acknowledged rate of 10^300, which none takes either, and no bound
limited_rates :
    rates most_rate infinite infinite infinite ≡ most_rate ∷ most_rate ∷ rate (bits 0x430B0028E44B0000) ∷ []
    × rates (rate (bits 0x430C2332B29F0000)) infinite infinite infinite ≡
    most_rate ∷ rate (bits 0x430C2332B29F0000) ∷ rate (bits 0x430ABB09C34A4000) ∷ []
    × rates huge infinite infinite infinite ≡ most_rate ∷ most_rate ∷ most_rate ∷ []
    × rates one infinite huge huge ≡ rate (bits 0x412F20C000000000) ∷ one ∷ rate (bits 0x412CFDE000000000) ∷ most_rate ∷ most_rate ∷ most_rate ∷ []
unfolding rates above bandwidths cut limited scaled larger smaller times maximum minimum is_nan lt mul of_bits
limited_rates = (refl, refl, refl, refl)

-- the rate that a candidate is made of, and what cuts it: a bound below the limit and one beyond it cut as before; made of an infinite rate it is as
-- before, beyond the limit too
limited_cuts :
    cut one two huge ∷ cut one huge huge ∷ cut (rate (inf true)) huge huge ∷ [] ≡ two ∷ most_rate ∷ most_rate ∷ []
    × cut one huge infinite ∷ cut infinite two infinite ∷ [] ≡ huge ∷ infinite ∷ []
unfolding cut limited larger smaller maximum minimum is_nan lt of_bits
limited_cuts = (refl, refl)

-- ---- the choice

abbrev parameters : Bitrate → ChannelParameters
parameters r = record { inherent_loss = bits 0x3F847AE147AE147B; loss_limited_bandwidth = r }

-- a candidate of 2 with this objective, after one of 1 with the objective 0.5
second : Float → Bitrate
second value = (judged (judged (start (parameters three)) (parameters one) (bits 0x3FE0000000000000)) (parameters two) value).best_candidate.loss_limited_bandwidth

-- objectives 0.5, the next float, NaN and infinity
second_examples :
    map (λ b. second (bits b)) (0x3FE0000000000000 ∷ 0x3FE0000000000001 ∷ 0x7FF8000000000000 ∷ 0x7FF0000000000000 ∷ []) ≡ one ∷ two ∷ one ∷ two ∷ []
unfolding second judged lt of_bits
second_examples = refl

-- a first candidate of 1 with this objective, where 3 is the current rate
first : ℕ → Bitrate
first b = (judged (start (parameters three)) (parameters one) (bits b)).best_candidate.loss_limited_bandwidth

-- f64::MIN, the next float above it, minus infinity, NaN, -1.0
first_examples :
    map first (0xFFEFFFFFFFFFFFFF ∷ 0xFFEFFFFFFFFFFFFE ∷ 0xFFF0000000000000 ∷ 0x7FF8000000000000 ∷ 0xBFF0000000000000 ∷ []) ≡
    three ∷ one ∷ three ∷ three ∷ one ∷ []
unfolding first judged lt of_bits
first_examples = refl

-- a candidate at -1 bit/s, whose objective is refused, after one that was better
refused_example :
    choice true (parameters three) (parameters one ∷ parameters (rate (bits 0xBFF0000000000000)) ∷ []) [] (bits 0) ≡ Err NoLogarithm
unfolding choice better judged newton derivatives safe sign_bit feasible upper_bound_of_loss objective bias adjusted logarithm magnitude maximum minimum add div
    eq is_nan le lt mul of_bits of_int sub to_bits
refused_example = refl

-- no candidate
none_example : choice true (parameters three) [] [] (bits 0) ≡ Ok (parameters three)
unfolding choice
none_example = refl

-- Worked examples of the definitions in specs/, which antt computes; the answers are the oracle's: those of the Rust with the edits that
-- oracle/README.md lists. They test the definitions; no proof cites them.
use Rattle.std.specs.Prelude.{ℕ, ◌≡◌, refl, Bool, true, false, List, [], ◌∷◌, map, replicate, Option, Some, None, Result, Ok, Err}
use Rattle.std.specs.Result.{result_unwrap_or}
use Rattle.std.specs.Float.{binary64}
use Rattle.std.specs.Float.Ieee.{add, div, eq, in_float, is_nan, le, lt, mul, of_bits, of_int, sub, to_bits}
use Rattle.float.specs.Rounded.{bits}
use Rattle.float.specs.Rust.{maximum, minimum, sign_bit}
use Rattle.bandwidth.specs.Rate as Rate
use Rattle.bandwidth.specs.declared.Bitrate.{Bitrate}
use Rattle.refusal.specs.Outcome.{number as refusal_number}
use Rattle.refusal.specs.declared.Refusal.{Refusal}
use Rattle.refusal.specs.declared.Refusal.TheVariants.{Time as TooLate, UnequalColumns, TooManyPackets, Rate as RateRefused, Flag, PacketSize}
use Rattle.likelihood.specs.Bias as Bias
use Rattle.likelihood.specs.Feasible as Feasible
use Rattle.likelihood.specs.Newton as Newton
use Rattle.likelihood.specs.Objective as Objective
use Rattle.likelihood.specs.Probability as Probability
use Rattle.logarithm.specs.Ln as Ln
use Rattle.logarithm.specs.Power as Power
use Rattle.candidates.specs.Bound as Bound
use Rattle.candidates.specs.Candidate as Candidate
use Rattle.candidates.specs.Choice as Choice
use Rattle.estimator.specs.Hold as Hold
use Rattle.estimator.specs.Increase as Increase
use Rattle.estimator.specs.Update as Update
use Rattle.estimator.specs.Recovery as Recovery
use Rattle.time.specs.Delta as Delta
use Rattle.time.specs.Time as Time
use Rattle.duration.specs.Nanos as Nanos
use Rattle.observation.specs.Ratio as Ratio
use Rattle.observation.specs.Rows as Rows
use Rattle.observation.specs.Partial as Partial
use Rattle.bandwidth.specs.Size as Size
use Rattle.integer.specs.Fitted as Fitted
use Rattle.duration.specs.Seconds as Seconds
use Rattle.rounding.specs.Ratio as Loss
use Rattle.float.specs.Answer as Answer
use Rattle.packets.specs.Summary.{check_time, check_columns, packets, check_packet, add_packet, summary_of, is_of_report}
use Rattle.observation.specs.Window as Window
use Rattle.estimator.specs.State.{number}
use Rattle.loss_controller.specs.Controller.{initial}
use Rattle.loss_controller.specs.Setters as Setters
use Rattle.loss_controller.specs.Report as Report
use Rattle.loss_controller.specs.Result as Read
use Rattle.loss_controller.specs.declared.LossController.{LossController}

-- ---- codes 2 and 3

-- 0, 10^15, the next float, infinity, a NaN; -0.0, -1.0, minus infinity
rates :
    map (λ n. refusal_number (Setters.check_rate (Rate.rate (bits n))))
    (0 ∷ 0x430C6BF526340000 ∷ 0x430C6BF526340001 ∷ 0x7FF0000000000000 ∷ 0xFFF8000000000001 ∷ 0x8000000000000000 ∷ 0xBFF0000000000000
    ∷ 0xFFF0000000000000 ∷ []) ≡
    0 ∷ 0 ∷ 2 ∷ 0 ∷ 0 ∷ 2 ∷ 2 ∷ 0 ∷ []
unfolding Setters.check_rate sign_bit lt of_bits to_bits
rates = refl

times : map (λ n. refusal_number (check_time n)) (0 ∷ 4000000000000000000 ∷ 4000000000000000001 ∷ []) ≡ 0 ∷ 0 ∷ 3 ∷ []
unfolding check_time
times = refl

-- ---- the example of document 01, as state, published, rate and inherent loss of an answer line

abbrev rate_bits : Option Bitrate → List ℕ
rate_bits (Some r) = 1 ∷ to_bits binary64 r.bps ∷ []
rate_bits None = 0 ∷ 0 ∷ []

line : LossController → List ℕ
unfolding Read.published Read.loss_based_result
line c = number (Read.loss_based_result c).state ∷ to_bits binary64 (Read.inherent_loss c) ∷ rate_bits (Read.loss_based_result c).bandwidth_estimate

-- the controller that a call leaves
abbrev left : LossController → Result LossController Refusal → LossController
left c answer = result_unwrap_or answer c

abbrev estimated : Bool → ℕ → LossController
estimated use_bytes n = left (initial use_bytes) (Setters.set_bandwidth_estimate (initial use_bytes) (Rate.rate (bits n)))

example : line (estimated true 4696837146684686336) ≡ 0 ∷ 4576918229304087675 ∷ 1 ∷ 4696837146684686336 ∷ []
    × line (initial true) ≡ 0 ∷ 4576918229304087675 ∷ 0 ∷ 0 ∷ []
unfolding line Setters.check_rate Setters.set_bandwidth_estimate Window.cleared sign_bit lt of_bits to_bits
example = (refl, refl)

-- ---- ALR

-- on, and on again: the start is stored, the observations are reset at the first alone; off resets them
alr :
    let on = left (initial true) (Setters.set_alr_start_time (initial true) (Some 5)) in
    Setters.set_alr_start_time on (Some 7) ≡ Ok (Setters.with_alr_start_time on (Some 7))
    × Setters.set_alr_start_time on None ≡ Ok (Setters.reset_observations (Setters.with_alr_start_time on None))
    × Setters.set_alr_start_time on (Some 4000000000000000001) ≡ Err TooLate
unfolding Setters.set_alr_start_time Setters.with_alr_start_time Setters.reset_observations Setters.check_start check_time
alr = (refl, refl, refl)

-- ---- a report

abbrev megabit : ℕ
megabit = 0x412E848000000000

abbrev report : List ℕ → List ℕ → List ℕ → ℕ → Result LossController Refusal
report times sizes flags delay = Report.update_bandwidth_estimate (initial true) times sizes flags (Rate.rate (bits delay))

-- its refusals in their order: 4 before 5, 5 before 2, 2 before a packet's 3, 3 before its 17, 17 before its 8
order :
    report (replicate 4097 0) (replicate 4096 0) (replicate 4097 0) 0x8000000000000000 ≡ Err UnequalColumns
    × report (replicate 4097 0) (replicate 4097 0) (replicate 4097 0) 0x8000000000000000 ≡ Err TooManyPackets
    × report (4000000000000000001 ∷ []) (10000000 ∷ []) (2 ∷ []) 0x8000000000000000 ≡ Err RateRefused
    × report (4000000000000000001 ∷ []) (10000000 ∷ []) (2 ∷ []) megabit ≡ Err TooLate
    × report (0 ∷ []) (10000000 ∷ []) (2 ∷ []) megabit ≡ Err PacketSize
    × report (0 ∷ []) (9999999 ∷ []) (2 ∷ []) megabit ≡ Err Flag
unfolding Report.update_bandwidth_estimate Setters.check_rate check_columns packets check_packet add_packet summary_of sign_bit lt of_bits to_bits
order = (refl, refl, refl, refl, refl, refl)

-- by its totals: 5 for 5,000 packets and for more lost than sent, before 2 and 3; totals that a report has get 2, then 3, and are reported
abbrev by_totals : ℕ → ℕ → ℕ → ℕ → Result LossController Refusal
by_totals packets lost time delay =
    Report.update_with_summary (initial true)
    (record { num_packets = packets; num_lost_packets = lost; total_size = 0; lost_size = 0; last_send_time = time }) (Rate.rate (bits delay))

totals :
    by_totals 5000 0 0 0x8000000000000000 ≡ Err TooManyPackets
    × by_totals 3 4 4000000000000000001 megabit ≡ Err TooManyPackets
    × by_totals 3 3 4000000000000000001 0x8000000000000000 ≡ Err RateRefused
    × by_totals 3 3 4000000000000000001 megabit ≡ Err TooLate
    × by_totals 3 3 7 megabit ≡ report (7 ∷ 7 ∷ 0 ∷ []) (0 ∷ 0 ∷ 0 ∷ []) (1 ∷ 1 ∷ 1 ∷ []) megabit
unfolding Report.update_bandwidth_estimate Report.update_with_summary Setters.check_rate check_time
    check_columns packets check_packet add_packet summary_of is_of_report sign_bit lt of_bits to_bits
totals = (refl, refl, refl, refl, refl)

-- an empty one stores the delay estimate and does no more
empty : Report.update_bandwidth_estimate (initial true) [] [] [] (Rate.rate (bits megabit)) ≡
    Ok (Report.with_delay_based_estimate (initial true) (Rate.rate (bits megabit)))
unfolding Report.update_bandwidth_estimate Report.reported Setters.check_rate check_columns packets summary_of sign_bit lt of_bits to_bits
empty = refl

-- ---- whole reports

-- 2 Mbit/s estimated, 1.5 acknowledged
abbrev told : Bool → LossController
told use_bytes =
    let c = estimated use_bytes 0x413E848000000000 in
    left c (Setters.set_acknowledged_bitrate c (Rate.rate (bits 0x4136E36000000000)))

abbrev after_report : ℕ → LossController → List ℕ → List ℕ → List ℕ → LossController
after_report delay c times sizes flags = left c (Report.update_bandwidth_estimate c times sizes flags (Rate.rate (bits delay)))

-- 3 Mbit/s from the delay controller, 9,000 of 70,200 bytes lost in 0.3 s: Decreasing, and the ceiling is published. By packets 1 of 3 is lost, and the
-- ceiling that is published is 352,941 bit/s; with 2 of 20 lost and 5 Mbit/s estimated it is 2,000,000 (Q-7).
-- 8,200 bit/s estimated and from the delay controller, 150 of 1,000 bytes lost in 1 s: Decreasing, and a twentieth less is published, where the
-- Rust's grouping of the bias would keep it (examples/grouping_keeps_8200_bit.txt, Q-9).
-- 10^15 bit/s estimated, no delay estimate, 2,000 bytes and no loss: 10^15 is published, where the Rust publishes 1.02 × 10^15 (Q-5)
decreasing :
    map
    (λ use_bytes. line (after_report 0x4146E36000000000 (after_report 0x4146E36000000000 (told use_bytes) (0 ∷ []) (1200 ∷ []) (0 ∷ []))
    (300000000 ∷ 300000001 ∷ []) (60000 ∷ 9000 ∷ []) (0 ∷ 1 ∷ [])))
    (true ∷ false ∷ []) ≡
    (2 ∷ 4580551374841200862 ∷ 1 ∷ 4698242737114942079 ∷ []) ∷ (2 ∷ 4590094504831602437 ∷ 1 ∷ 4689807095706727605 ∷ []) ∷ []
    × line (after_report 0x7FF0000000000000 (after_report 0x7FF0000000000000 (estimated false 0x415312D000000000) (replicate 10 0) (replicate 10 60)
    (replicate 10 0)) (replicate 10 300000000) (replicate 10 60) (1 ∷ 1 ∷ replicate 8 0)) ≡
    2 ∷ 4580502929337763494 ∷ 1 ∷ 0x413E848000000000 ∷ []
    × line (after_report 0x40C0040000000000 (after_report 0x40C0040000000000 (estimated true 0x40C0040000000000) (0 ∷ []) (850 ∷ []) (0 ∷ []))
    (1000000000 ∷ []) (150 ∷ []) (1 ∷ [])) ≡
    2 ∷ 4584625288427029704 ∷ 1 ∷ 4665287210281467904 ∷ []
    × line (after_report 0x7FF0000000000000 (after_report 0x7FF0000000000000 (estimated true 0x430C6BF526340000) (0 ∷ []) (1000 ∷ []) (0 ∷ []))
    (250000001 ∷ []) (1000 ∷ []) (0 ∷ [])) ≡
    2 ∷ 4562254508917369340 ∷ 1 ∷ 0x430C6BF526340000 ∷ []
unfolding line Bias.adjusted Bias.bias Feasible.upper_bound Feasible.feasible Newton.safe Newton.add_derivatives Newton.derivatives Newton.newton
    Objective.with_terms Objective.terms Objective.add_terms Objective.objective Probability.congested Probability.probability Ln.logarithm_of_bits
    Ln.logarithm Power.power_steps Power.power
    Power.weight Bound.at_most Bound.capacity Bound.within Bound.in_window Bound.acceleration Bound.upper_bound Candidate.scaled Candidate.above Candidate.bandwidths
    Candidate.cut Candidate.candidate Candidate.candidates Choice.judged Choice.better Choice.choice
    Hold.twice Hold.doubled Hold.entered Increase.not_increased_above_inherent_loss Increase.is_estimate_increasing_when_loss_limited Increase.rampup_factor
    Increase.within_rampup Increase.ramped_up Increase.increase_limited_due_to_loss Increase.increase_limited Update.with_reduction_noted
    Update.is_in_hold Update.held Update.is_limiting Update.new_state Update.new_hold_info Update.with_new_state Update.decided Update.updated Update.applied
    Recovery.window_end Recovery.is_above_limit Recovery.bounded Recovery.is_over Recovery.opened Recovery.renewed Delta.difference Delta.in_seconds
    Delta.order Delta.rate Delta.plus Time.since Time.plus Time.order Nanos.fitted Ratio.age Ratio.window Ratio.readable
    Ratio.average_reported_loss_ratio Ratio.instant_limit Ratio.instant_upper_bound Ratio.valid_or_max Ratio.cached Rows.row_of Rows.rows Window.cleared
    Window.reference Window.completes Window.full Window.observed Window.stored Window.with_ceiling Window.with_partial Window.renewed Window.completed
    Window.added Partial.updated Rate.over Rate.smaller Rate.larger Rate.limited Rate.times Rate.plus Rate.minus Size.kilobytes Size.float Fitted.fitted Fitted.in_i64 Seconds.seconds Seconds.nearest_nanos Loss.loss_ratio Loss.loss_ceiling Answer.clamped Report.bounds
    Report.report Report.updated_estimator Report.has_valid_estimate Report.observed Report.with_delay_based_estimate Report.reported
    Report.update_bandwidth_estimate Setters.check_rate Setters.set_bandwidth_estimate Setters.set_acknowledged_bitrate check_columns packets
    check_packet add_packet summary_of maximum minimum sign_bit add div eq in_float is_nan le lt mul of_bits
    of_int sub to_bits Rattle.float.specs.Rust.magnitude
decreasing = (refl, refl, refl, refl)

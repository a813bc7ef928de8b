-- Document 01's starred values for observations: a span of 250,000,000 ns completes none and 250,000,001 one; one observation with 50 of 1,000
-- bytes lost sets no ceiling, and 100 of 1,000 one of 2,000,000 bit/s. Loss is by bytes. Assumes nothing.
use Rattle.std.specs.Prelude.{ℕ, ◌+◌, ◌-◌, Bool, true, false, Result, Ok, refl}
use Rattle.std.specs.Float.Ieee.{add, div, eq, in_float, lt, mul, of_bits, of_int, sub, to_bits}
use Rattle.std.specs.Float.{binary64}
use Rattle.refusal.specs.Outcome.{and_then}
use Rattle.refusal.specs.declared.Refusal.{Refusal}
use Rattle.float.specs.Claims.{Claims, none, claim, Hold}
use Rattle.duration.specs.Seconds.{seconds}
use Rattle.bandwidth.specs.Rate as Rate
use Rattle.bandwidth.specs.Size as Size
use Rattle.time.specs.Delta as Delta
use Rattle.time.specs.Time as Time
use Rattle.logarithm.specs.Power.{weight}
use Rattle.rounding.specs.Ratio.{loss_ratio, loss_ceiling}
use Rattle.packets.specs.declared.PacketResultsSummary.{PacketResultsSummary}
use Rattle.observation.specs.Partial.{updated}
use Rattle.observation.specs.Ratio.{age, window, readable, average_reported_loss_ratio, instant_limit, instant_upper_bound, valid_or_max, cached}
use Rattle.observation.specs.Window.{cleared, reference, completes, full, observed, stored, with_ceiling, with_partial, renewed, completed, added}
use Rattle.observation.specs.declared.Added.{Added}

-- two reports, so many ns apart, of 1,000 bytes together, of which the second's are lost
abbrev after : ℕ → ℕ → Result Added Refusal
after span lost =
    let received : PacketResultsSummary =
    record { num_packets = 1; num_lost_packets = 0; total_size = 1000 - lost; lost_size = 0; last_send_time = 7 } in
    let gone : PacketResultsSummary =
    record { num_packets = 1; num_lost_packets = 1; total_size = lost; lost_size = lost; last_send_time = 7 + span } in
    and_then (added (cleared true 0) received) (λ first. added first.observations gone)

-- whether the second completed an observation
abbrev completed_one : Result Added Refusal → Result Bool Refusal
completed_one answer = and_then answer (λ a. Ok a.completed)

-- the ceiling that is read then, as the bits of its rate
abbrev ceiling : Result Added Refusal → Result ℕ Refusal
ceiling answer = and_then answer (λ a. Ok (to_bits binary64 (cached a.observations.cached_instant_upper_bound).bps))

-- infinite, and 2,000,000 bit/s
abbrev pub starred : Claims
starred =
    claim (completed_one (after 250000000 50)) (Ok false)
    (claim (completed_one (after 250000001 50)) (Ok true)
    (claim (ceiling (after 250000001 50)) (Ok 0x7FF0000000000000)
    (claim (ceiling (after 250000001 100)) (Ok 0x413E848000000000) none)))

pub starred_hold : Hold starred
unfolding add div eq in_float lt mul of_bits of_int sub to_bits seconds Rate.over Size.float Delta.difference Delta.in_seconds Delta.order Delta.rate
    Time.since weight loss_ratio updated age window readable average_reported_loss_ratio loss_ceiling instant_limit instant_upper_bound valid_or_max cached
    cleared reference completes full observed stored with_ceiling with_partial renewed completed added
starred_hold = (refl, (refl, (refl, (refl, tt))))

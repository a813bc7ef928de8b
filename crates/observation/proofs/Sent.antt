-- The rate of each observation is a float of binary64, from the start on and after each report; so is the rate of each row. Assumes nothing.
use Rattle.std.proofs.Common.{ℕ, Bool, leb, List, pos, Result, Ok}
use Rattle.std.specs.Prelude.{IfOk}
use lib.Ieee.{binary64}
use lib.Ieee.Bits.{of_bits-fits}
use lib.Ieee.Fits.{inf-fits}
use Rattle.refusal.specs.declared.Refusal.{Refusal}
use Rattle.std.specs.List.{All}
use Rattle.std.proofs.lemmas.List.Elements.{All-replicate, All-set, All-map, All-weaker}
use Rattle.float.proofs.Refusal.{either, tested, checked}
use Rattle.bandwidth.specs.Size as Size
use Rattle.bandwidth.specs.declared.Bitrate.{Bitrate}
use Rattle.bandwidth.specs.declared.DataSize.{DataSize}
use Rattle.bandwidth.proofs.NotNegativeRate.{HoldsRate, over_holds}
use Rattle.time.specs.Delta as Delta
use Rattle.time.specs.declared.TimeDelta.{TimeDelta}
use Rattle.likelihood.specs.declared.Row.{Row}
use Rattle.likelihood.proofs.Judged.{SentRow}
use Rattle.packets.specs.declared.PacketResultsSummary.{PacketResultsSummary}
use Rattle.observation.specs.Ratio as Ratio
use Rattle.observation.specs.Rows as Rows
use Rattle.observation.specs.Window as Window
use Rattle.observation.specs.declared.Added.{Added}
use Rattle.observation.specs.declared.Observation.{Observation}
use Rattle.observation.specs.declared.Observations.{Observations}
use Rattle.observation.specs.declared.PartialObservation.{PartialObservation}
use Rattle.observation.proofs.AfterReport.{span, added_by}

-- the rate of an observation is a float of binary64
abbrev SentObservation : Observation → Type 0
SentObservation o = HoldsRate o.sending_rate

-- so is each in the window
abbrev pub AllSent : Observations → Type 0
AllSent o = All SentObservation o.observations

-- ---- a new observation

rate_holds : (s : DataSize) (d : TimeDelta) → IfOk (Delta.rate s d) HoldsRate
unfolding Delta.rate
rate_holds s d = checked (λ r. IfOk r HoldsRate) (Size.float s) (λ bytes h. over_holds _ _) (λ e h. tt)

abbrev SentNew : Result Observation Refusal → Type 0
SentNew new = IfOk new SentObservation

observed_sent : (p : PartialObservation) (id : ℕ) (span : TimeDelta) → SentNew (Window.observed p id span)
unfolding Window.observed
observed_sent p id span =
    let size = Size.size (pos p.size) in
    tested SentNew (leb p.num_lost_packets p.num_packets)
    (λ l. checked SentNew (Delta.rate size span) {f = λ (rate : Bitrate). Ok _} (λ rate h. rw h at (rate_holds size span)) (λ e h. tt)) (λ l. tt)

-- ---- the window

-- at the start and after a reset each rate is
pub cleared_sent : (use_bytes : Bool) (count : ℕ) → AllSent (Window.cleared use_bytes count)
unfolding Window.cleared
cleared_sent use_bytes count = All-replicate SentObservation 15 Window.dummy (inf-fits binary64 _)

-- after a report each still is
pub added_sent : (o : Observations) (s : PacketResultsSummary) → AllSent o → IfOk (Window.added o s) (λ (a : Added). AllSent a.observations)
unfolding Window.stored Window.with_ceiling Window.with_partial
added_sent o s h =
    added_by o s (λ r. IfOk r (λ (a : Added). AllSent a.observations)) (λ n. h) (λ e. tt)
    (λ q new ceiling u c n r. All-set SentObservation o.observations _ new (rw n at (observed_sent q o.num_observations (span o s))) h) (λ q u c. h)

-- ---- the rows

-- each row's rate is, where each observation's is
pub rows_sent : (o : Observations) → AllSent o → IfOk (Rows.rows o) (All SentRow)
unfolding Rows.rows
rows_sent o h =
    let use_bytes = o.use_byte_loss_ratio in
    let made =
    All-map SentRow (Rows.row_of use_bytes o.num_observations) o.observations
    (All-weaker SentObservation _ (row_sent use_bytes o.num_observations) o.observations h) in
    tested SentRows (Ratio.readable use_bytes o.observations) (λ r. made) (λ r. tt)
  where
    SentRows : Result (List Row) Refusal → Type 0
    SentRows rows = IfOk rows (All SentRow)

    row_sent : (use_bytes : Bool) (count : ℕ) (o : Observation) → SentObservation o → SentRow (Rows.row_of use_bytes count o)
    row_sent use_bytes count o h =
        unfold Rows.row_of in either SentRow o.is_initialized _ Rows.empty_row (either SentRow use_bytes _ _ h h) (of_bits-fits binary64 0)

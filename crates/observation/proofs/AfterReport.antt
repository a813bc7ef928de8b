-- What a report leaves in the observations: what was there, where it has no packets, an observation more, or running sums; or its refusal. Assumes
-- nothing.
use Rattle.std.proofs.Common.{◌≡◌, true, false, eqb, Result, Ok, Err, eqb-true}
use Rattle.refusal.specs.declared.Refusal.{Refusal}
use Rattle.refusal.specs.declared.Refusal.TheVariants.{RunningSums, Observations as TooManyObservations}
use Rattle.float.proofs.Refusal.{tested, checked}
use Rattle.bandwidth.specs.declared.Bitrate.{Bitrate}
use Rattle.time.specs.Time as Time
use Rattle.time.specs.declared.TimeDelta.{TimeDelta}
use Rattle.time.specs.declared.Timestamp.{Timestamp}
use Rattle.time.specs.declared.Timestamp.TheVariants.{Exact}
use Rattle.packets.specs.declared.PacketResultsSummary.{PacketResultsSummary}
use Rattle.observation.specs.Partial as Partial
use Rattle.observation.specs.Ratio as Ratio
use Rattle.observation.specs.Window as Window
use Rattle.observation.specs.declared.PartialObservation.{PartialObservation}
use Rattle.observation.specs.declared.Observation.{Observation}
use Rattle.observation.specs.declared.Observations.{Observations}
use Rattle.observation.specs.declared.Added.{Added}

module _ (o : Observations) (s : PacketResultsSummary) where
  abbrev pub sums : Result PartialObservation Refusal
  sums = Partial.updated o.partial_observation s

  abbrev pub from : Timestamp
  from = Window.reference o.last_send_time_most_recent_observation (Exact s.last_send_time)

  abbrev pub span : TimeDelta
  span = Time.since (Exact s.last_send_time) from

  abbrev pub observed : PartialObservation → Result Observation Refusal
  observed q = Window.observed q o.num_observations span

  abbrev pub stored : Observation → Observations
  stored new = Window.stored o new (Exact s.last_send_time)

  -- what holds of each of these holds of the answer
  pub added_by : (P : Result Added Refusal → Type 0)
      → (s.num_packets ≡ 0 → P (Ok (Window.unchanged o)))
      → ((refusal : Refusal) → P (Err refusal))
      → ((q : PartialObservation) (new : Observation) (ceiling : Bitrate) → sums ≡ Ok q → Window.completes span ≡ true → observed q ≡ Ok new
      → Ratio.instant_upper_bound (stored new) ≡ Ok ceiling
      → P (Ok (record { observations = Window.with_ceiling (stored new) ceiling; completed = true })))
      → ((q : PartialObservation) → sums ≡ Ok q → Window.completes span ≡ false
      → P (Ok (record { observations = Window.with_partial o q from; completed = false })))
      → P (Window.added o s)
  unfolding Window.added Window.completed Window.renewed
  added_by P idle refused more less =
      tested P (eqb s.num_packets 0) (λ e. idle (eqb-true s.num_packets 0 e))
      (λ there. tested P (Partial.beyond (Partial.plus o.partial_observation s)) (λ b. refused RunningSums)
      (λ b. tested P (Window.full o span) (λ f. refused TooManyObservations)
      (λ f. checked P sums
      (λ q u. tested P (Window.completes span)
      (λ c. checked P (observed q)
      (λ new n. checked P (Ratio.instant_upper_bound (stored new)) (λ ceiling r. more q new ceiling u c n r) (λ e r. refused e))
      (λ e n. refused e))
      (less q u))
      (λ e u. refused e))))

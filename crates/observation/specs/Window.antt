-- The window of fifteen observations, and what a report with packets does to it. Definitions only.
use Rattle.std.specs.Prelude.{ℕ, ◌+◌, ◌-◌, ◌%◌, ◌^◌, Bool, true, false, if◌then◌else◌, ◌&&◌, replicate, pos, ◌==◌, nat_le, slice_set, Some, None, Result, Ok, Err}
use Rattle.std.specs.Float.{inf}
use Rattle.std.specs.Ordering.{is_gt}
use Rattle.refusal.specs.Outcome.{and_then}
use Rattle.refusal.specs.declared.Refusal.{Refusal}
use Rattle.refusal.specs.declared.Refusal.TheVariants.{Arithmetic, RunningSums, Observations as TooManyObservations}
use Rattle.bandwidth.specs.Rate as Rate
use Rattle.bandwidth.specs.Size as Size
use Rattle.bandwidth.specs.declared.Bitrate.{Bitrate}
use Rattle.time.specs.Delta as Delta
use Rattle.time.specs.Time as Time
use Rattle.time.specs.declared.TimeDelta.{TimeDelta}
use Rattle.time.specs.declared.TimeDelta.TheVariants.{Positive}
use Rattle.time.specs.declared.Timestamp.{Timestamp}
use Rattle.time.specs.declared.Timestamp.TheVariants.{Exact, DistantFuture}
use Rattle.config.specs.Config as Config
use Rattle.packets.specs.declared.PacketResultsSummary.{PacketResultsSummary}
use Rattle.observation.specs.Partial as Partial
use Rattle.observation.specs.Ratio.{instant_upper_bound}
use Rattle.observation.specs.declared.PartialObservation.{PartialObservation}
use Rattle.observation.specs.declared.Observation.{Observation}
use Rattle.observation.specs.declared.Observations.{Observations}
use Rattle.observation.specs.declared.Added.{Added}

-- Observation::DUMMY
abbrev pub dummy : Observation
dummy =
    record {
      num_packets = 0;
      size = 0;
      num_lost_packets = 0;
      lost_size = 0;
      num_received_packets = 0;
      sending_rate = Rate.rate (inf true);
      id = 0;
      is_initialized = false;
    }

-- "An ALR change empties window, running sums, reference time and loss ceiling. It keeps the observation count" (reset_observations), which at the
-- start is 0, and the profile, "fixed when a controller is made" (Q-7): whether loss is by bytes
unfoldable pub cleared : Bool → ℕ → Observations
cleared use_bytes count =
    record {
      use_byte_loss_ratio = use_bytes;
      partial_observation = Partial.none;
      last_send_time_most_recent_observation = DistantFuture;
      num_observations = count;
      observations = replicate Config.observation_window_size dummy;
      cached_instant_upper_bound = None;
    }

-- ---- the span

-- "The first report after the start or an ALR change sets the reference time"
unfoldable pub reference : Timestamp → Timestamp → Timestamp
reference recent last = if Time.is_exact recent then recent else last

-- "An observation completes only when the span exceeds 250 ms"
unfoldable pub completes : TimeDelta → Bool
completes span = is_gt (Delta.order span (Positive Config.observation_duration_lower_bound))

-- "11: 10^9 observations are complete and this report would complete another"
unfoldable pub full : Observations → TimeDelta → Bool
full o span = completes span && nat_le (10 ^ 9) o.num_observations

-- ---- a completed observation

-- the running sums as an observation, which was sent at this rate
abbrev pub observation_of : PartialObservation → ℕ → Bitrate → Observation
observation_of p id sending_rate =
    record {
      num_packets = p.num_packets;
      size = p.size;
      num_lost_packets = p.num_lost_packets;
      lost_size = p.lost_size;
      num_received_packets = p.num_packets - p.num_lost_packets;
      sending_rate = sending_rate;
      id = id;
      is_initialized = true;
    }

-- the running sums over their span; 7 where more packets are lost than there are, or where the bytes go to no float
unfoldable pub observed : PartialObservation → ℕ → TimeDelta → Result Observation Refusal
observed p id span =
    let rate = Delta.rate (Size.size (pos p.size)) span in
    if nat_le p.num_lost_packets p.num_packets then and_then rate (λ r. Ok (observation_of p id r)) else Err Arithmetic

-- "The slot is id % 15"; "store, clear the running sums"
unfoldable pub stored : Observations → Observation → Timestamp → Observations
stored o new last =
    record o {
      partial_observation = Partial.none;
      last_send_time_most_recent_observation = last;
      num_observations = o.num_observations + 1;
      observations = slice_set o.observations (new.id % Config.observation_window_size) new;
    }

unfoldable pub with_ceiling : Observations → Bitrate → Observations
with_ceiling o ceiling = record o { cached_instant_upper_bound = Some ceiling }

-- the sums go on, and no observation is complete
unfoldable pub with_partial : Observations → PartialObservation → Timestamp → Observations
with_partial o p reference = record o { partial_observation = p; last_send_time_most_recent_observation = reference }

-- ---- maybe_add_observation

-- no observation is complete
abbrev pub unchanged : Observations → Added
unchanged o = record { observations = o; completed = false }

-- "recompute the ceiling": the window's with the newest observation in it
unfoldable pub renewed : Observations → Result Added Refusal
renewed new = and_then (instant_upper_bound new) (λ ceiling. Ok (record { observations = with_ceiling new ceiling; completed = true }))

-- the newest observation has the count before it as its id
unfoldable pub completed : Observations → PartialObservation → TimeDelta → Timestamp → Result Added Refusal
completed o p span last = and_then (observed p o.num_observations span) (λ new. renewed (stored o new last))

-- no packets, the Rust's `None`: nothing changes. Else the report's sums are added, and it completes an observation where its latest send time is more than
-- 250 ms after the reference time. Refusals: 10, 11, then 7
unfoldable pub added : Observations → PacketResultsSummary → Result Added Refusal
added o s =
    let last = Exact s.last_send_time in
    let from = reference o.last_send_time_most_recent_observation last in
    let span = Time.since last from in
    if s.num_packets == 0 then Ok (unchanged o)
    else if Partial.beyond (Partial.plus o.partial_observation s) then Err RunningSums
    else if full o span then Err TooManyObservations
    else
    and_then (Partial.updated o.partial_observation s) (λ sums.
    if completes span then completed o sums span last else Ok (record { observations = with_partial o sums from; completed = false }))

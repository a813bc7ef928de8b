-- The invariant that ties the controller's observations to a history, and what keeps it: a start, a reset, running sums that go on, an observation that
-- completes. Assumes nothing.
use Rattle.std.proofs.Common.{rules, ◌≡◌, ℕ, ◌^◌, ◌≤◌, Bool, Option, Some, None, IsOkAnd}
use mathlib.Core.Option.{some}
use lib.Ieee.{eq, in_float, lt, of_bits}
use Rattle.std.proofs.lemmas.List.{map-set}
use Rattle.rounding.specs.Ratio.{loss_ratio}
use Rattle.bandwidth.specs.Size as Size
use Rattle.time.specs.Delta as Delta
use Rattle.time.specs.declared.TimeDelta.{TimeDelta}
use Rattle.time.specs.declared.Timestamp.{Timestamp}
use Rattle.time.specs.declared.Timestamp.TheVariants.{Exact, DistantFuture}
use Rattle.observation.specs.Ratio as Ratio
use Rattle.observation.specs.Window as Window
use Rattle.observation.specs.declared.PartialObservation.{PartialObservation}
use Rattle.observation.specs.declared.Observation.{Observation}
use Rattle.observation.specs.declared.Observations.{Observations}
use Rattle.history.specs.History.{Sums, History, fresh, completed, with_running}
use Rattle.history.proofs.Kept.{Part, SoundSums, emptied_kept, completed_kept}
use Rattle.history.proofs.Slots.{held, slots_empty, slots_turn}
use Rattle.history.proofs.Weighed.{Windowed, ceiling_of}

-- the reference time that a history's time is
abbrev pub reference : Option ℕ → Timestamp
reference None = DistantFuture
reference (Some time) = Exact time

abbrev pub running_sums : PartialObservation → Sums
running_sums q = record { bytes = q.size; lost_bytes = q.lost_size; packets = q.num_packets; lost_packets = q.num_lost_packets }

-- the window, the running sums and the reference time are the history's, and the ceiling that is cached is the window's
pub record Tied (o : Observations) (h : History) : Type 0 where
  pub windowed : Windowed o h
  pub ceiling : Ratio.cached o.cached_instant_upper_bound ≡ Ratio.valid_or_max (ceiling_of o)
  pub running : running_sums o.partial_observation ≡ h.running
  pub time : o.last_send_time_most_recent_observation ≡ reference h.time

-- ---- a start or a reset

no_ceiling : (use_bytes : Bool) (n : ℕ)
    → let o = Window.cleared use_bytes n in Ratio.cached o.cached_instant_upper_bound ≡ Ratio.valid_or_max (ceiling_of o)
unfolding Window.cleared Ratio.cached Ratio.valid_or_max Ratio.window Ratio.instant_limit loss_ratio eq lt of_bits
no_ceiling use_bytes n = search rules

-- cleared observations are tied to a history without observations, of the same count
pub reset_tied : (use_bytes : Bool) (n : ℕ) (on : Bool) → Tied (Window.cleared use_bytes n) (record fresh { on = on; count = n })
unfolding Window.cleared held
reset_tied use_bytes n on = search (rules, slots_empty, emptied_kept, no_ceiling)

-- ---- a new observation

-- it has this id, and a slot holds it with these sums
pub record Holds (new : Observation) (id : ℕ) (s : Sums) : Type 0 where
  pub same_id : new.id ≡ id
  pub holds : held new ≡ some (id, s)

-- it is not refused where no more packets are lost than sent, and the bytes go to a float
pub observed_taken : (q : PartialObservation) (id : ℕ) (span : TimeDelta) → q.num_lost_packets ≤ q.num_packets → q.size ≤ 10 ^ 12
    → IsOkAnd (Window.observed q id span) (λ new. Holds new id (running_sums q))
unfolding Window.observed Delta.rate Size.float in_float held
observed_taken q id span l room = search rules

module _ (o : Observations) (h : History) (t : Tied o h) where
  -- the sums go on
  pub running_tied : (q : PartialObservation) (s : Sums) (time : ℕ) → running_sums q ≡ s → Part s
      → Tied (Window.with_partial o q (Exact time)) (with_running h s time)
  unfolding Window.with_partial with_running
  running_tied q s time same part = search rules

  -- an observation is stored
  pub stored_windowed : (new : Observation) (s : Sums) (sent : ℕ) → Holds new o.num_observations s → SoundSums s
      → Windowed (Window.stored o new (Exact sent)) (completed h s sent)
  unfolding Window.stored completed
  stored_windowed new s sent k sound =
      record { count = cc; slots = search (rules, map-set, slots_turn); kept = search (rules, completed_kept) }

  -- and its window's ceiling
  pub stored_tied : (new : Observation) (s : Sums) (sent : ℕ) → Holds new o.num_observations s → SoundSums s
      → let stored = Window.stored o new (Exact sent) in Tied (Window.with_ceiling stored (ceiling_of stored)) (completed h s sent)
  unfolding Window.with_ceiling Window.stored completed Ratio.cached
  stored_tied new s sent k sound = search (rules, stored_windowed new s sent k sound)

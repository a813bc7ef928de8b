-- A report is refused by the observations with 10 or 11 alone, each where document 01 says so of the history; any other leaves them tied to the history
-- that has heard it. Assumes nothing.
use Rattle.std.proofs.Common.{rules, ◌≡◌, ℕ, ◌+◌, ◌^◌, ◌≤◌, true, false, unwrap_or, Result, Ok, ltb, List}
use Rattle.refusal.specs.declared.Refusal.{Refusal}
use Rattle.refusal.proofs.Alike.{Alike, answers, same}
use Rattle.refusal.proofs.Gives.{gives_from}
use Rattle.time.specs.Time as Time
use Rattle.time.specs.declared.TimeDelta.{TimeDelta}
use Rattle.time.specs.declared.Timestamp.TheVariants.{Exact}
use Rattle.packets.specs.Summary.{summary_of}
use Rattle.packets.specs.declared.PacketResultsSummary.{PacketResultsSummary}
use Rattle.packets.proofs.Totals.{packet_taken, lost_part, summary_holds}
use Rattle.observation.specs.Partial as Partial
use Rattle.observation.specs.Window as Window
use Rattle.observation.specs.declared.Added.{Added}
use Rattle.observation.specs.declared.Observations.{Observations}
use Rattle.observation.specs.declared.PartialObservation.{PartialObservation}
use Rattle.observation.proofs.Plain.{completes_after}
use Rattle.history.specs.History.{Sums, History, completed, with_report}
use Rattle.history.specs.Refusals.{passes, fills, check_state}
use Rattle.history.proofs.Kept.{Part, SoundSums}
use Rattle.history.proofs.Tied.{running_sums, Tied, Holds, observed_taken, running_tied, stored_windowed, stored_tied}
use Rattle.history.proofs.Weighed.{ceiling_taken}

-- ---- a report's totals

-- no more lost than sent, in packets and in bytes
pub record Parted (s : PacketResultsSummary) : Type 0 where
  pub packets : s.num_lost_packets ≤ s.num_packets
  pub bytes : s.lost_size ≤ s.total_size

-- so it is in every report's
pub summary_parted : (times sizes flags : List ℕ) (s : PacketResultsSummary) → summary_of times sizes flags ≡ Ok s → Parted s
summary_parted = summary_holds Parted (search rules) (λ s p e k. search (rules, packet_taken p e, lost_part p e))

-- sums with a report's, and the history that has heard a report with these totals
abbrev pub plus_totals : Sums → PacketResultsSummary → Sums
plus_totals r s =
    record {
      bytes = r.bytes + s.total_size;
      lost_bytes = r.lost_bytes + s.lost_size;
      packets = r.packets + s.num_packets;
      lost_packets = r.lost_packets + s.num_lost_packets;
    }

abbrev pub heard_totals : History → PacketResultsSummary → History
heard_totals h s = with_report h (plus_totals h.running s) (unwrap_or h.time s.last_send_time) s.last_send_time

-- ---- what is added

module _ (o : Observations) (h : History) (t : Tied o h) (s : PacketResultsSummary) (parted : Parted s) where
  abbrev sums : PartialObservation
  sums = Partial.plus o.partial_observation s

  abbrev span : TimeDelta
  span = let last = Exact s.last_send_time in Time.since last (Window.reference o.last_send_time_most_recent_observation last)

  abbrev more : Sums
  more = plus_totals h.running s

  part : Part more
  part = search rules

  more_is : running_sums sums ≡ more
  more_is = cc

  passes_is : Partial.beyond sums ≡ passes h s.num_packets s.total_size
  passes_is = cc

  sums_part : Part (running_sums sums)
  sums_part = search rules

  within : Partial.beyond sums ≡ false → (sums.num_packets ≤ 10 ^ 9) × (sums.size ≤ 10 ^ 12)
  within e = search rules

  -- of sums within the limits no lost one passes a u64
  sums_taken : Partial.beyond sums ≡ false → Partial.updated o.partial_observation s ≡ Ok sums
  unfolding Partial.updated
  sums_taken e = search (rules, within e, sums_part false, sums_part true)

  from_is : Window.reference o.last_send_time_most_recent_observation (Exact s.last_send_time) ≡ Exact (unwrap_or h.time s.last_send_time)
  unfolding Window.reference
  from_is = search rules

  completes_is : Window.completes span ≡ ltb (unwrap_or h.time s.last_send_time + 250000000) s.last_send_time
  completes_is = search (rules, from_is, completes_after)

  full_is : Window.full o span ≡ fills h s.last_send_time
  unfolding Window.full
  full_is = search (rules, completes_is)

  abbrev Leaves : Result Added Refusal → History → Type 0
  Leaves r after = Alike (λ (a : Added) _. Tied a.observations after) r (Ok (tt {0}))

  completed_leaves : Partial.beyond sums ≡ false → Leaves (Window.completed o sums span (Exact s.last_send_time)) (completed h more s.last_send_time)
  unfolding Window.completed Window.renewed
  completed_leaves e =
      let w = within e in
      let sound : SoundSums more = search rules in
      let new = gives_from (Window.observed sums o.num_observations span) (observed_taken sums o.num_observations span (sums_part false) w.1) in
      let k : Holds new.value o.num_observations more = search (rules, new.holds, more_is) in
      rw (new.is, ceiling_taken _ _ (stored_windowed o h t new.value more s.last_send_time k sound))
      (answers (stored_tied o h t new.value more s.last_send_time k sound))

  pub added_alike : (s.num_packets ≡ 0 → ⊥)
      → Alike (λ (a : Added) _. Tied a.observations (heard_totals h s)) (Window.added o s) (check_state h s.num_packets s.total_size s.last_send_time)
  unfolding Window.added with_report
  added_alike there =
      search (rules, sums_taken, completed_leaves, running_tied, passes_is, full_is, completes_is, from_is, more_is, part, answers, same)

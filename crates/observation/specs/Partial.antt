-- The running sums of an observation that is being made. Definitions only.
use Rattle.std.specs.Prelude.{◌+◌, ◌-◌, ◌^◌, Bool, if◌then◌else◌, ◌||◌, nat_lt, Result, Ok, Err}
use Rattle.refusal.specs.declared.Refusal.{Refusal}
use Rattle.refusal.specs.declared.Refusal.TheVariants.{RunningSums, Arithmetic}
use Rattle.packets.specs.declared.PacketResultsSummary.{PacketResultsSummary}
use Rattle.observation.specs.declared.PartialObservation.{PartialObservation}

-- PartialObservation::new
abbrev pub none : PartialObservation
none = record { num_packets = 0; num_lost_packets = 0; size = 0; lost_size = 0 }

-- the sums with a report's
abbrev pub plus : PartialObservation → PacketResultsSummary → PartialObservation
plus p s =
    record {
      num_packets = p.num_packets + s.num_packets;
      num_lost_packets = p.num_lost_packets + s.num_lost_packets;
      size = p.size + s.total_size;
      lost_size = p.lost_size + s.lost_size;
    }

-- "10: running bytes would pass 10^12, or packets 10^9"
abbrev pub beyond : PartialObservation → Bool
beyond q = nat_lt (10 ^ 9) q.num_packets || nat_lt (10 ^ 12) q.size

-- that, and then 7 where a lost sum fits no u64 (PartialObservation::update)
unfoldable pub updated : PartialObservation → PacketResultsSummary → Result PartialObservation Refusal
updated p s =
    let q = plus p s in
    if beyond q then Err RunningSums
    else if nat_lt (2 ^ 64 - 1) q.num_lost_packets || nat_lt (2 ^ 64 - 1) q.lost_size then Err Arithmetic
    else Ok q

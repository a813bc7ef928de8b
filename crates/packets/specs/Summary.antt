-- The packets of a report and their totals. Definitions only.
use Rattle.std.specs.Prelude.{ℕ, ◌+◌, ◌-◌, ◌*◌, ◌^◌, Bool, if◌then◌else◌, ◌&&◌, ◌||◌, List, [], ◌∷◌, length, ◌==◌, nat_le, nat_lt, Result, Ok, Err}
use Rattle.refusal.specs.Outcome.{and_then, try_fold}
use Rattle.refusal.specs.declared.Refusal.{Refusal}
use Rattle.refusal.specs.declared.Refusal.TheVariants.{Time, UnequalColumns, TooManyPackets, Flag, PacketSize}
use Rattle.packets.specs.declared.PacketResult.{PacketResult}
use Rattle.packets.specs.declared.PacketResultsSummary.{PacketResultsSummary}

-- ---- limits

-- "5: more than 4,096 packets"
abbrev pub most_packets : ℕ
most_packets = 4096

-- "3: a time above 4×10^18 ns"
abbrev pub latest_time : ℕ
latest_time = 4 * 10 ^ 18

-- "Sizes up to 9,999,999 bytes are taken" (Q-10)
abbrev pub largest_packet : ℕ
largest_packet = 9999999

unfoldable pub check_time : ℕ → Result (Unit {0}) Refusal
check_time t = if nat_le t latest_time then Ok tt else Err Time

-- ---- columns

-- "A report checks 4, 5": columns of unequal length, then more than 4,096 packets
unfoldable pub check_columns : List ℕ → List ℕ → List ℕ → Result (Unit {0}) Refusal
check_columns times sizes flags =
    if length sizes == length times && length flags == length times
    then (if nat_le (length times) most_packets then Ok tt else Err TooManyPackets)
    else Err UnequalColumns

-- the packets that three columns of one length tell of, in their order
unfoldable pub packets : List ℕ → List ℕ → List ℕ → List PacketResult
packets (time ∷ times) (size ∷ sizes) (flag ∷ flags) =
    record { local_send_time = time; size = size; lost = flag } ∷ packets times sizes flags
packets (time ∷ times) (size ∷ sizes) [] = []
packets (time ∷ times) [] flags = []
packets [] sizes flags = []

-- "then each packet's 3, 17 and 8": a time above 4×10^18 ns, then a size above 9,999,999 bytes, then a flag neither 0 nor 1
unfoldable pub check_packet : PacketResult → Result (Unit {0}) Refusal
check_packet p =
    if nat_le p.local_send_time latest_time
    then (if nat_le p.size largest_packet then (if nat_le p.lost 1 then Ok tt else Err Flag) else Err PacketSize)
    else Err Time

-- ---- totals

abbrev pub empty : PacketResultsSummary
empty = record { num_packets = 0; num_lost_packets = 0; total_size = 0; lost_size = 0; last_send_time = 0 }

abbrev pub later : ℕ → ℕ → ℕ
later a b = if nat_lt a b then b else a

-- "Sum bytes, lost bytes, packets and lost packets; take the latest send time": one packet more (the loop of PacketResultsSummary::from)
abbrev pub plus : PacketResultsSummary → PacketResult → PacketResultsSummary
plus s p =
    record {
      num_packets = s.num_packets + 1;
      num_lost_packets = s.num_lost_packets + p.lost;
      total_size = s.total_size + p.size;
      lost_size = s.lost_size + p.size * p.lost;
      last_send_time = later s.last_send_time p.local_send_time;
    }

-- a packet that is refused adds nothing
unfoldable pub add_packet : PacketResultsSummary → PacketResult → Result PacketResultsSummary Refusal
add_packet s p = and_then (check_packet p) (λ checked. Ok (plus s p))

-- the columns' refusal, then packet by packet from the first (PacketResultsSummary::from)
unfoldable pub summary_of : List ℕ → List ℕ → List ℕ → Result PacketResultsSummary Refusal
summary_of times sizes flags = and_then (check_columns times sizes flags) (λ checked. try_fold add_packet empty (packets times sizes flags))

-- ---- totals that are summed up already

-- whether some report has these totals: of at most 4,096 packets some are lost, and the lost ones and the others have at most 9,999,999 bytes each;
-- without packets there is no send time
unfoldable pub is_of_report : PacketResultsSummary → Bool
is_of_report s =
    nat_le s.num_packets most_packets
    && (nat_le s.num_lost_packets s.num_packets
    && (nat_le s.lost_size s.total_size
    && (nat_le s.lost_size (largest_packet * s.num_lost_packets)
    && (nat_le (s.total_size - s.lost_size) (largest_packet * (s.num_packets - s.num_lost_packets))
    && (nat_lt 0 s.num_packets || s.last_send_time == 0)))))

-- one packet more, for a caller's own loop: 5 where no report has these totals, and for a packet that is one too many
unfoldable pub added : PacketResultsSummary → PacketResult → Result PacketResultsSummary Refusal
added s p = if is_of_report s && nat_lt s.num_packets most_packets then add_packet s p else Err TooManyPackets

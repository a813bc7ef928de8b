-- Worked examples of the definitions in specs/, which antt computes. They test the definitions; no proof cites them.
use Rattle.std.specs.Prelude.{◌≡◌, ℕ, true, false, [], ◌∷◌, map, replicate, Ok, Err, refl}
use Rattle.refusal.specs.declared.Refusal.TheVariants.{Time, UnequalColumns, TooManyPackets, Flag, PacketSize}
use Rattle.packets.specs.Summary.{check_columns, packets, check_packet, empty, add_packet, summary_of, is_of_report, added}
use Rattle.packets.specs.declared.PacketResult.{PacketResult}
use Rattle.packets.specs.declared.PacketResultsSummary.{PacketResultsSummary}

-- three packets, of which the last two are lost, and the first was sent last
totals : summary_of (30 ∷ 10 ∷ 20 ∷ []) (100 ∷ 200 ∷ 9999999 ∷ []) (0 ∷ 1 ∷ 1 ∷ [])
    ≡ Ok (record { num_packets = 3; num_lost_packets = 2; total_size = 10000299; lost_size = 10000199; last_send_time = 30 })
unfolding check_columns packets check_packet add_packet summary_of
totals = refl

-- an empty report is not refused
no_packets : summary_of [] [] [] ≡ Ok empty
unfolding check_columns packets summary_of
no_packets = refl

-- 4,096 packets are taken and 4,097 not; a column that is too short goes first
numbers : check_columns (replicate 4096 0) (replicate 4096 0) (replicate 4096 0) ≡ Ok tt
    × check_columns (replicate 4097 0) (replicate 4097 0) (replicate 4097 0) ≡ Err TooManyPackets
    × check_columns (replicate 4097 0) (replicate 4097 0) (replicate 4096 0) ≡ Err UnequalColumns
    × check_columns [] (0 ∷ []) [] ≡ Err UnequalColumns
unfolding check_columns
numbers = (refl, refl, refl, refl)

-- ---- packets

abbrev sent : ℕ → ℕ → ℕ → PacketResult
sent time size flag = record { local_send_time = time; size = size; lost = flag }

-- 4×10^18 ns and 9,999,999 bytes are taken, and one more of either is not; nor is the largest size that a column holds
edges :
    map check_packet
    (sent 4000000000000000000 9999999 1
    ∷ sent 4000000000000000001 9 0
    ∷ sent 1 10000000 0
    ∷ sent 1 4294967295 0
    ∷ sent 1 9 2
    ∷ []) ≡
    Ok tt ∷ Err Time ∷ Err PacketSize ∷ Err PacketSize ∷ Err Flag ∷ []
unfolding check_packet
edges = refl

-- a packet's time goes before its size, and both before its flag
two_codes :
    map check_packet
    (sent 4000000000000000001 10000000 0
    ∷ sent 4000000000000000001 9 2
    ∷ sent 1 10000000 2
    ∷ sent 4000000000000000001 10000000 2
    ∷ []) ≡
    Err Time ∷ Err Time ∷ Err PacketSize ∷ Err Time ∷ []
unfolding check_packet
two_codes = refl

-- the first packet that has a refusal goes before the others
first_packet : summary_of (1 ∷ 4000000000000000001 ∷ []) (9 ∷ 9 ∷ []) (2 ∷ 0 ∷ []) ≡ Err Flag
    × summary_of (4000000000000000001 ∷ 1 ∷ []) (9 ∷ 9 ∷ []) (0 ∷ 2 ∷ []) ≡ Err Time
    × summary_of (1 ∷ 4000000000000000001 ∷ []) (10000000 ∷ 9 ∷ []) (0 ∷ 0 ∷ []) ≡ Err PacketSize
    × summary_of (4000000000000000001 ∷ 1 ∷ []) (9 ∷ 10000000 ∷ []) (0 ∷ 0 ∷ []) ≡ Err Time
    × summary_of (1 ∷ 1 ∷ []) (9 ∷ 10000000 ∷ []) (2 ∷ 0 ∷ []) ≡ Err Flag
    × summary_of (1 ∷ 1 ∷ []) (10000000 ∷ 9 ∷ []) (0 ∷ 2 ∷ []) ≡ Err PacketSize
unfolding check_columns packets check_packet add_packet summary_of
first_packet = (refl, refl, refl, refl, refl, refl)

-- ---- totals

abbrev sums : ℕ → ℕ → ℕ → ℕ → ℕ → PacketResultsSummary
sums packets lost bytes bytes_lost time =
    record { num_packets = packets; num_lost_packets = lost; total_size = bytes; lost_size = bytes_lost; last_send_time = time }

-- 4,096 packets of 9,999,999 bytes, a lost one of 9,999,999 bytes beside one that arrived, one of no bytes, and none
of_reports : map is_of_report (sums 4096 0 40959995904 0 9 ∷ sums 2 1 19999998 9999999 9 ∷ sums 1 0 0 0 9 ∷ sums 0 0 0 0 0 ∷ []) ≡ true ∷ true ∷ true ∷ true ∷ []
unfolding is_of_report
of_reports = refl

-- 5,000 packets, more lost than sent, more lost bytes than bytes, 4,096 packets of one byte too many, a lost packet and one that arrived of
-- 10,000,000 bytes, a lost byte without a lost packet, and no packets but a byte or a time
of_no_report :
    map is_of_report
    (sums 5000 0 5000000 0 9
    ∷ sums 3 4 3000 3000 9
    ∷ sums 3 1 3000 3001 9
    ∷ sums 4096 0 40959995905 0 9
    ∷ sums 3 1 10000000 10000000 9
    ∷ sums 1 0 10000000 0 9
    ∷ sums 3 0 3000 1 9
    ∷ sums 0 0 1 0 0
    ∷ sums 0 0 0 0 9
    ∷ []) ≡
    replicate 9 false
unfolding is_of_report
of_no_report = refl

-- one packet more: the 4,096th is taken and the next not, nor one of 10,000,000 bytes, nor one beside totals of no report
one_more :
    added (sums 4095 0 0 0 3) (sent 9 7 1) ≡ Ok (sums 4096 1 7 7 9)
    × added (sums 4096 0 0 0 3) (sent 9 7 1) ≡ Err TooManyPackets
    × added (sums 4095 0 0 0 3) (sent 9 10000000 1) ≡ Err PacketSize
    × added (sums 3 4 0 0 3) (sent 9 7 1) ≡ Err TooManyPackets
unfolding is_of_report added add_packet check_packet
one_more = (refl, refl, refl, refl)

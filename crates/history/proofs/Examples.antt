-- Worked examples of the definitions in specs/, which antt computes. They test the definitions; no proof cites them.
use Rattle.std.specs.Prelude.{ℕ, zero, suc, ◌+◌, ◌*◌, ◌≡◌, refl, true, false, List, [], ◌∷◌, ◌++◌, map, length, replicate, Some, None}
use Rattle.std.specs.List.{list_all}
use Rattle.std.specs.Float.Ieee.{le, lt, of_bits, of_int, to_bits}
use Rattle.refusal.specs.Outcome.{number}
use Rattle.float.specs.Rounded.{bits}
use Rattle.float.specs.Rust.{sign_bit}
use Rattle.bandwidth.specs.Rate.{most_rate, nearest}
use Rattle.logarithm.specs.Ln.{logarithm}
use Rattle.rounding.specs.Exact.{exact_sum}
use Rattle.packets.specs.Summary.{check_columns, packets, check_packet}
use Rattle.loss_controller.specs.Setters.{check_rate}
use Rattle.history.specs.Calls.{Call, estimate, acknowledged, alr, capacity, report, read, Told}
use Rattle.history.specs.History.{Sums, History, nothing, fresh, switched, completed, with_running}
use Rattle.history.specs.History.{with_report, heard, fed, after}
use Rattle.history.specs.WeighedPairs.{pairs, aged, weighed_lost, weighed_total, all_totals}
use Rattle.history.specs.Refusals.{check_report, check_call, refusal_of}
use Rattle.history.specs.Unreached.{outside_domain}
use Rattle.history.specs.Finite.{is_report, hands_finite, most_bits}

abbrev taken : Call → Told
taken c = record { call = c; refused = false }

-- a packet of so many bytes that arrived and one that was lost, sent at this time
abbrev sent : ℕ → ℕ → ℕ → Told
sent time arrived lost = taken (report (time ∷ 0 ∷ []) (arrived ∷ lost ∷ []) (0 ∷ 1 ∷ []) 0)

abbrev sums : ℕ → ℕ → ℕ → ℕ → Sums
sums bytes lost_bytes packets lost_packets = record { bytes = bytes; lost_bytes = lost_bytes; packets = packets; lost_packets = lost_packets }

-- the first report sets the time; a span of 250,000,000 ns completes none, and 250,000,001 one, of the bytes and packets so far
spans :
    after (sent 5 90 10 ∷ sent 250000005 1 0 ∷ []) ≡
    record { observations = []; running = sums 101 10 4 2; time = Some 5; on = false; count = 0 }
    × after (sent 5 90 10 ∷ sent 250000006 1 0 ∷ []) ≡
    record { observations = sums 101 10 4 2 ∷ []; running = nothing; time = Some 250000006; on = false; count = 1 }
unfolding fed heard with_report completed with_running
spans = (refl, refl)

-- refused, empty, read, and a setter other than ALR
unchanged :
    after
    (record { call = report (5 ∷ []) (7 ∷ []) (0 ∷ []) 0; refused = true } ∷
    taken (report [] [] [] 0) ∷
    taken read ∷
    taken (estimate 0) ∷
    []) ≡
    fresh
unfolding fed heard
unchanged = refl

-- on empties all but the count, on again changes nothing, off empties again
changes :
    after (sent 5 90 10 ∷ sent 250000006 1 0 ∷ sent 250000007 2 0 ∷ taken (alr (Some 1)) ∷ []) ≡
    record { observations = []; running = nothing; time = None; on = true; count = 1 }
    × after (taken (alr (Some 1)) ∷ sent 5 90 10 ∷ taken (alr (Some 2)) ∷ []) ≡
    record { observations = []; running = sums 100 10 2 1; time = Some 5; on = true; count = 0 }
    × after (taken (alr (Some 1)) ∷ sent 5 90 10 ∷ taken (alr None) ∷ []) ≡ fresh
unfolding fed heard switched with_report completed with_running
changes = (refl, refl, refl)

-- ---- the window

-- reports of 1, 2, 3, .. bytes, 0.3 s apart, after one that sets the time
counted : ℕ → ℕ → List Told
counted zero k = []
counted (suc n) k = sent (k * 300000000) k 0 ∷ counted n (k + 1)

-- sixteen observations: the first is dropped, with its 1 byte and 4 packets
sixteen : length (after (sent 0 0 0 ∷ counted 16 1)).observations ≡ 15
    × (after (sent 0 0 0 ∷ counted 16 1)).count ≡ 16
    × map (λ use_bytes. all_totals (pairs use_bytes (after (sent 0 0 0 ∷ counted 16 1)))) (true ∷ false ∷ []) ≡ 135 ∷ 30 ∷ []
unfolding counted fed heard with_report completed with_running
sixteen = (refl, refl, refl)

-- 10 of 100 bytes lost, and before that 10 of 1,000, in 1 of 2 packets and 2 of 4: 10^14 and 9 × 10^13
abbrev two : History
two = after (sent 0 0 0 ∷ sent 300000000 990 10 ∷ sent 600000000 90 10 ∷ [])

weighed :
    weighed_lost true two ≡ 1900000000000000
    × weighed_total true two ≡ 100000000000000000
    × weighed_lost false two ≡ 280000000000000
    × weighed_total false two ≡ 560000000000000
unfolding fed heard with_report completed with_running aged exact_sum
weighed = (refl, refl, refl, refl)

-- ---- packets (Q-7)

-- one observation, of the packets of the first report too: 1,000 bytes that were lost, then twice 10 bytes. r is 1,000 / 1,020 by bytes and 1/3 by packets
abbrev unequal : History
unequal =
    after
    (taken (report (0 ∷ []) (1000 ∷ []) (1 ∷ []) 0) ∷ taken (report (300000000 ∷ 300000000 ∷ []) (10 ∷ 10 ∷ []) (0 ∷ 0 ∷ []) 0) ∷ [])

one_third :
    unequal.observations ≡ sums 1020 1000 3 1 ∷ []
    × 1020 * weighed_lost true unequal ≡ 1000 * weighed_total true unequal
    × 3 * weighed_lost false unequal ≡ weighed_total false unequal
unfolding fed heard with_report completed with_running aged exact_sum
one_third = (refl, refl, refl)

-- packets of zero bytes, one of four lost: the window has packets and no bytes
abbrev hollow : History
hollow = after (sent 0 0 0 ∷ taken (report (300000000 ∷ 1 ∷ []) (0 ∷ 0 ∷ []) (0 ∷ 0 ∷ []) 0) ∷ [])

zero_bytes :
    all_totals (pairs true hollow) ≡ 0
    × all_totals (pairs false hollow) ≡ 4
    × weighed_lost false hollow ≡ 100000000000000
    × weighed_total false hollow ≡ 400000000000000
unfolding fed heard with_report completed with_running aged exact_sum
zero_bytes = (refl, refl, refl, refl)

-- ---- full frames (Q-10)

-- so many frames of 9,999,999 bytes that arrived and so many that were lost, sent at this time
abbrev frames : ℕ → ℕ → ℕ → Told
frames time arrived lost =
    taken (report (replicate (arrived + lost) time) (replicate (arrived + lost) 9999999) (replicate arrived 0 ++ replicate lost 1) 0)

-- one frame of so many bytes
abbrev frame : ℕ → Call
frame size = report (0 ∷ []) (size ∷ []) (0 ∷ []) 0

-- 1,024 of 4,096 frames lost, and before that 10 of 100: r is (1,024 + 9) / (4,096 + 90)
abbrev full : History
full = after (frames 0 2 0 ∷ frames 300000000 88 10 ∷ frames 600000000 3072 1024 ∷ [])

full_window :
    full.observations ≡ sums 40959995904 10239998976 4096 1024 ∷ sums 999999900 99999990 100 10 ∷ []
    × all_totals (pairs true full) ≡ 41959995804
    × weighed_lost true full ≡ 1032999896700000000000000
    × weighed_total true full ≡ 4185999581400000000000000
    × map (λ use_bytes. 4186 * weighed_lost use_bytes full) (true ∷ false ∷ []) ≡ map (λ use_bytes. 1033 * weighed_total use_bytes full) (true ∷ false ∷ [])
unfolding fed heard with_report completed with_running aged exact_sum
full_window = (refl, refl, refl, refl, refl)

-- 100,000 frames, which leave room for 100,000 bytes: the next frame gets 10, and one of 10,000,000 bytes 17
abbrev filled : History
filled = after (replicate 24 (frames 0 4096 0) ++ (frames 0 1696 0 ∷ []))

next_frame : filled.running ≡ sums 999999900000 0 100000 0
    × map (λ size. refusal_of filled (frame size)) (100000 ∷ 100001 ∷ 9999999 ∷ 10000000 ∷ []) ≡ 0 ∷ 10 ∷ 10 ∷ 17 ∷ []
    × map (λ size. refusal_of full (frame size)) (9999999 ∷ 10000000 ∷ []) ≡ 0 ∷ 17 ∷ []
unfolding fed heard with_report completed with_running check_call check_report check_columns
    packets check_packet check_rate sign_bit lt of_bits to_bits
next_frame = (refl, refl, refl)

-- 10^9 - 1 running packets, of no bytes: one more is taken, and two get 10, whatever the profile (Q-7)
last_packet :
    map (refusal_of (record { observations = []; running = sums 0 0 999999999 9; time = None; on = false; count = 0 }))
    (report (0 ∷ []) (0 ∷ []) (0 ∷ []) 0 ∷ report (0 ∷ 0 ∷ []) (0 ∷ 0 ∷ []) (0 ∷ 0 ∷ []) 0 ∷ []) ≡
    0 ∷ 10 ∷ []
unfolding check_call check_report check_columns packets check_packet check_rate sign_bit lt of_bits to_bits
last_packet = refl

-- ---- the number of a refused logarithm

zero_argument : number (logarithm (bits 0)) ≡ outside_domain
unfolding logarithm le of_bits
zero_argument = refl

-- ---- calls that hand over no estimate that is not finite (Q-5)

-- 10^15, the largest float, infinity, minus infinity and a NaN as estimates; infinity as acknowledged rate, as capacity and as a report's delay estimate
finite_hands :
    map (λ n. hands_finite (estimate n))
    (0x430C6BF526340000 ∷ 0x7FEFFFFFFFFFFFFF ∷ 0x7FF0000000000000 ∷ 0xFFF0000000000000 ∷ 0x7FF8000000000001 ∷ []) ≡
    true ∷ true ∷ false ∷ false ∷ false ∷ []
    × list_all hands_finite
    (acknowledged 0x7FF0000000000000 ∷ capacity (Some 0x7FF0000000000000) ∷ alr None ∷ read
    ∷ report (0 ∷ []) (0 ∷ []) (0 ∷ []) 0x7FF0000000000000 ∷ []) ≡
    true
unfolding of_bits
finite_hands = (refl, refl)

-- reports, refused ones among them, and not a read
reports_alone :
    map (list_all is_report) ((report [] [] [] 0 ∷ report (0 ∷ []) [] [] 0 ∷ []) ∷ (report [] [] [] 0 ∷ read ∷ []) ∷ [] ∷ []) ≡ true ∷ false ∷ true ∷ []
reports_alone = refl

-- the limit is the one that code 2 has
same_limit : most_rate ≡ nearest most_bits
unfolding of_bits of_int
same_limit = refl

-- The claims, as tests, on short lists, under both profiles: those that the must-fail edits of this crate name, where the conditions are met and each
-- edit makes its test false on its list (tools/refute.py), one in which all bytes are lost, some of full frames (Q-10), and some on which the profiles
-- differ (Q-7). No proof cites it. Assumes nothing.
use Rattle.std.proofs.Common.{◌≡◌, ℕ, zero, suc, ◌+◌, true, false, List, [], ◌∷◌, ◌++◌, map, replicate, Some, None, refl}
use lib.Ieee.{of_bits}
use Rattle.float.specs.Rounded.{bits}
use Rattle.history.specs.Calls.{Call, estimate, alr, report, read}
use Rattle.history.proofs.Tested.{outcome, untraced, unreached, unescaped, up_to_most}

-- ---- the lists, of packets of 1,000 bytes. The estimate comes last, so that the steps after an observation are not computed

packet : ℕ → ℕ → Call
packet time lost = report (time ∷ []) (1000 ∷ []) (lost ∷ []) 0x7FF0000000000000

-- refused for a delay estimate of -0.0
refused : Call
refused = report (7 ∷ []) (1000 ∷ []) (1 ∷ []) 0x8000000000000000

-- so many frames of 9,999,999 bytes that arrived and so many that were lost
frames : ℕ → ℕ → ℕ → Call
frames time arrived lost =
    report (replicate (arrived + lost) time) (replicate (arrived + lost) 9999999) (replicate arrived 0 ++ replicate lost 1) 0x7FF0000000000000

-- 100,000 frames, which are 10^12 bytes but for 100,000
filled : List Call
filled = replicate 24 (frames 0 4096 0) ++ (frames 0 1696 0 ∷ [])

-- a packet of so many bytes
sized : ℕ → Call
sized bytes = report (0 ∷ []) (bytes ∷ []) (0 ∷ []) 0

-- 10^12 bytes, and a packet
beyond : List Call
beyond = filled ++ (sized 100000 ∷ packet 1 0 ∷ [])

-- 1,000 bytes that were lost, then twice 10 that arrived
unequal : List Call
unequal = packet 0 1 ∷ report (300000000 ∷ 300000000 ∷ []) (10 ∷ 10 ∷ []) (0 ∷ 0 ∷ []) 0x7FF0000000000000 ∷ []

-- 10^9 bit/s
high : Call
high = estimate 0x41CDCD6500000000

-- n observations from a time on, without loss
clean : ℕ → ℕ → List Call
clean zero time = []
clean (suc n) time = packet (time + 300000000) 0 ∷ clean n (time + 300000000)

at_250_ms : outcome (packet 0 0 ∷ packet 250000000 1 ∷ high ∷ []) ≡ record { met = true; count = 0; lossy = false ∷ false ∷ [] }
unfolding outcome packet high
at_250_ms = refl

after_250_ms : outcome (packet 0 0 ∷ packet 250000001 1 ∷ high ∷ read ∷ []) ≡ record { met = true; count = 1; lossy = true ∷ true ∷ [] }
unfolding outcome packet high
after_250_ms = refl

-- a refused report is not heard: its time is not the reference
refused_first : outcome (refused ∷ packet 250000008 0 ∷ high ∷ []) ≡ record { met = true; count = 0; lossy = false ∷ false ∷ [] }
unfolding outcome packet refused high
refused_first = refl

-- one observation without loss, ALR on, one with all bytes lost; on again changes nothing
alr_between :
    outcome (packet 0 0 ∷ packet 300000000 0 ∷ alr (Some 5) ∷ packet 0 1 ∷ packet 300000000 1 ∷ alr (Some 6) ∷ high ∷ []) ≡
    record { met = true; count = 2; lossy = true ∷ true ∷ [] }
unfolding outcome packet high
alr_between = refl

-- the oldest of fifteen alone has losses; then it is the sixteenth, and gone
oldest_of_fifteen :
    outcome (packet 0 1 ∷ packet 300000000 1 ∷ clean 14 300000000 ++ (high ∷ [])) ≡
    record { met = true; count = 15; lossy = false ∷ false ∷ [] }
unfolding outcome packet clean high
oldest_of_fifteen = refl

oldest_of_sixteen :
    outcome (packet 0 1 ∷ packet 300000000 1 ∷ clean 15 300000000 ++ (high ∷ [])) ≡
    record { met = true; count = 16; lossy = false ∷ false ∷ [] }
unfolding outcome packet clean high
oldest_of_sixteen = refl

-- 10^12 bytes are taken, and the next packet is refused
at_10_12 : outcome beyond ≡ record { met = true; count = 0; lossy = false ∷ false ∷ [] }
unfolding outcome packet frames filled sized beyond
at_10_12 = refl

-- a packet with both a late time and a wrong flag: 3
late_and_flagged : outcome (report (4000000000000000001 ∷ []) (1 ∷ []) (2 ∷ []) 0 ∷ []) ≡ record { met = true; count = 0; lossy = false ∷ false ∷ [] }
unfolding outcome
late_and_flagged = refl

-- one frame more gets 10, and one that is too large 17
beyond_and_large : outcome (filled ++ (sized 9999999 ∷ sized 10000000 ∷ [])) ≡ record { met = true; count = 0; lossy = false ∷ false ∷ [] }
unfolding outcome frames filled sized
beyond_and_large = refl

-- two observations of full frames with losses, and a frame of 10,000,000 bytes between them, which is refused and not heard
full_frames :
    outcome (frames 0 2 0 ∷ frames 300000000 88 10 ∷ report (560000000 ∷ []) (10000000 ∷ []) (1 ∷ []) 0 ∷ frames 600000000 3072 1024 ∷ high ∷ []) ≡
    record { met = true; count = 2; lossy = true ∷ true ∷ [] }
unfolding outcome frames high
full_frames = refl

-- ---- lists on which the profiles differ (Q-7)

-- r is 1000/1020 by bytes and 1/3 by packets, the ceilings 107,482 and 352,941 bit/s
unequal_sizes : outcome (unequal ++ (high ∷ [])) ≡ record { met = true; count = 1; lossy = true ∷ true ∷ [] }
unfolding outcome packet unequal high
unequal_sizes = refl

-- an ALR change keeps the profile
unequal_in_alr : outcome (alr (Some 5) ∷ unequal ++ (high ∷ [])) ≡ record { met = true; count = 1; lossy = true ∷ true ∷ [] }
unfolding outcome packet unequal high
unequal_in_alr = refl

-- one of four packets lost, all of zero bytes: a ceiling by packets, and none by bytes
no_bytes :
    outcome (report (0 ∷ 0 ∷ 0 ∷ []) (0 ∷ 0 ∷ 0 ∷ []) (1 ∷ 0 ∷ 0 ∷ []) 0 ∷ report (300000000 ∷ []) (0 ∷ []) (0 ∷ []) 0 ∷ high ∷ []) ≡
    record { met = true; count = 1; lossy = false ∷ true ∷ [] }
unfolding outcome high
no_bytes = refl

-- two packets of 1,000 bytes that arrived and two of 1 byte that were lost: r is 2/2002 by bytes and 1/2 by packets
small_lost :
    outcome (packet 0 0 ∷ packet 1 0 ∷ report (2 ∷ 300000000 ∷ []) (1 ∷ 1 ∷ []) (1 ∷ 1 ∷ []) 0x7FF0000000000000 ∷ high ∷ read ∷ []) ≡
    record { met = true; count = 1; lossy = false ∷ true ∷ [] }
unfolding outcome packet high
small_lost = refl

-- ---- lists with refused calls, which leave no trace

-- one observation, an estimate of 2 × 10^6 bit/s, and a report that is refused for its flag, with a delay estimate of 10^6: the estimate is published
refused_delay :
    untraced (packet 0 0 ∷ packet 300000000 0 ∷ estimate 0x413E848000000000 ∷ report (300000001 ∷ []) (1000 ∷ []) (2 ∷ []) 0x412E848000000000 ∷ []) ≡ true
unfolding untraced packet
refused_delay = refl

-- one observation with all bytes lost and its ceiling; ALR on from a time above 4 × 10^18 ns, then off: it was off
refused_start : untraced (packet 0 1 ∷ packet 300000000 1 ∷ high ∷ alr (Some 4000000000000000001) ∷ alr None ∷ []) ≡ true
unfolding untraced packet high
refused_start = refl

-- ---- what no list comes to

-- all bytes lost: the ratio is 1
all_lost : unreached (packet 0 1 ∷ packet 300000000 1 ∷ high ∷ []) ≡ true
unfolding unreached packet high
all_lost = refl

-- a call that is refused with 10
past_10_12 : unreached beyond ≡ true
unfolding unreached packet frames filled sized beyond
past_10_12 = refl

-- ---- rates that do not run away (Q-5)

-- 0.0 and 10^15; the next float, -1.0, infinity and NaN
up_to_most_examples :
    map (λ n. up_to_most (bits n)) (0 ∷ 0x430C6BF526340000 ∷ 0x430C6BF526340001 ∷ 0xBFF0000000000000 ∷ 0x7FF0000000000000 ∷ 0x7FF8000000000000 ∷ []) ≡
    true ∷ true ∷ false ∷ false ∷ false ∷ false ∷ []
unfolding up_to_most of_bits
up_to_most_examples = refl

-- an estimate of 10^15 bit/s, published after an observation, and a report without packets
at_the_limit :
    unescaped (packet 0 0 ∷ packet 300000000 0 ∷ estimate 0x430C6BF526340000 ∷ []) (report [] [] [] 0x7FF0000000000000 ∷ []) ≡ true
unfolding unescaped packet
at_the_limit = refl

-- 1 bit/s, and an infinite estimate, of which nothing is said
absent_estimate : unescaped (estimate 0x3FF0000000000000 ∷ []) (estimate 0x7FF0000000000000 ∷ []) ≡ true
unfolding unescaped
absent_estimate = refl

-- Worked examples of the definitions beside this file, by bit patterns, which antt computes. They test the definitions; no proof cites them.
-- The floats expected are the Rust's.
use Rattle.std.specs.Prelude.{◌≡◌, ℕ, ◌+◌, ◌-◌, ◌*◌, ◌%◌, Bool, true, false, List, [], ◌∷◌, map, take, None, Result, Ok, Err, refl}
use Rattle.std.specs.Result.{result_unwrap_or}
use Rattle.std.specs.Float.Ieee.{add, div, eq, in_float, lt, mul, of_bits, of_int, sub, to_bits}
use Rattle.std.specs.Float.{binary64, inf}
use Rattle.refusal.specs.Outcome.{and_then, number}
use Rattle.refusal.specs.declared.Refusal.{Refusal}
use Rattle.refusal.specs.declared.Refusal.TheVariants.{RunningSums}
use Rattle.float.specs.Rounded.{bits}
use Rattle.duration.specs.Seconds.{seconds}
use Rattle.bandwidth.specs.Rate as Rate
use Rattle.bandwidth.specs.Size as Size
use Rattle.time.specs.Delta as Delta
use Rattle.time.specs.Time as Time
use Rattle.time.specs.declared.Timestamp.TheVariants.{Exact}
use Rattle.logarithm.specs.Power.{weight}
use Rattle.rounding.specs.Ratio.{loss_ratio, loss_ceiling}
use Rattle.packets.specs.declared.PacketResultsSummary.{PacketResultsSummary}
use Rattle.likelihood.specs.declared.Row.{Row}
use Rattle.observation.specs.Partial as Partial
use Rattle.observation.specs.Ratio.{age, window, readable, average_reported_loss_ratio, instant_limit, instant_upper_bound, valid_or_max, cached}
use Rattle.observation.specs.Window.{dummy, cleared, reference, completes, full, observed, stored, with_ceiling, with_partial, renewed, completed}
use Rattle.observation.specs.Window.{unchanged, added}
use Rattle.observation.specs.Rows.{nearest, row_of}
use Rattle.observation.specs.declared.Observation.{Observation}
use Rattle.observation.specs.declared.Observations.{Observations}
use Rattle.observation.specs.declared.PartialObservation.{PartialObservation}

-- ---- running sums: exactly 10^12 bytes and 10^9 packets are taken, and one more is not; a lost sum that fits no u64 comes after

abbrev sums : ℕ → ℕ → ℕ → PartialObservation
sums packets size lost = record { num_packets = packets; num_lost_packets = 0; size = size; lost_size = lost }

abbrev report : ℕ → ℕ → ℕ → ℕ → ℕ → PacketResultsSummary
report packets lost bytes bytes_lost time =
    record { num_packets = packets; num_lost_packets = lost; total_size = bytes; lost_size = bytes_lost; last_send_time = time }

limits : number (Partial.updated (sums 999999999 999999999999 0) (report 1 0 1 0 0)) ≡ 0
    × Partial.updated (sums 999999999 999999999999 0) (report 2 0 1 0 0) ≡ Err RunningSums
    × number (Partial.updated (sums 999999999 999999999999 0) (report 1 0 2 0 0)) ≡ 10
    × number (Partial.updated (sums 18446744073709551615 0 0) (report 18446744073709551615 0 0 0 0)) ≡ 10
    × number (Partial.updated (sums 1 1 18446744073709551615) (report 1 1 1 1 0)) ≡ 7
unfolding Partial.updated
limits = (refl, refl, refl, refl, refl)

-- ---- reports: the first sets the reference time, the second and the third each complete an observation

-- report k: 3 + k packets, k % 4 of them lost, 1,000 + 777 k^2 bytes, 97 k^2 (k % 4) of them lost, 250,000,003 ns after the one before
abbrev report_at : ℕ → PacketResultsSummary
report_at k = report (3 + k) (k % 4) (1000 + 777 * k * k) (97 * k * k * (k % 4)) (1000000000 + k * 250000003)

-- the observations after a report, which is not refused here
abbrev after : Observations → PacketResultsSummary → Observations
after o s = (result_unwrap_or (added o s) (unchanged o)).observations

abbrev three : Observations
three = after (after (after (cleared true 0) (report_at 0)) (report_at 1)) (report_at 2)

three_reports : three.num_observations ≡ 2
    × three.last_send_time_most_recent_observation ≡ Exact 1500000006
    × three.partial_observation ≡ Partial.none
    × to_bits binary64 (cached three.cached_instant_upper_bound).bps ≡ 0x4132EAF2B8C0337F
unfolding add div eq in_float lt mul of_bits of_int sub to_bits seconds Rate.over Size.float Delta.difference Delta.in_seconds Delta.order Delta.rate
    Time.since weight loss_ratio Partial.updated age window readable average_reported_loss_ratio loss_ceiling instant_limit instant_upper_bound valid_or_max
    cached cleared reference completes full observed stored with_ceiling with_partial renewed completed added
three_reports = (refl, refl, refl, refl)

-- a summary of no packets changes nothing, whatever else it says: neither the reference time where there is none yet, nor the running sums, nor the count
no_packets : added (cleared true 3) (report 0 0 0 0 0) ≡ Ok (unchanged (cleared true 3))
    × added three (report 0 0 0 0 4000000000) ≡ Ok (unchanged three)
    × added three (report 0 1 1000000000001 9 4000000000) ≡ Ok (unchanged three)
unfolding added
no_packets = (refl, refl, refl)

-- ---- a full window after seventeen observations, the newest in slot 1

abbrev slot : ℕ → ℕ → ℕ → Observation
slot id size lost =
    record {
      num_packets = 9;
      size = size;
      num_lost_packets = 1;
      lost_size = lost;
      num_received_packets = 8;
      sending_rate = Rate.nearest id;
      id = id;
      is_initialized = true;
    }

slots : List Observation
slots =
    slot 15 225553 28033
    ∷ slot 16 252748 62856
    ∷ slot 2 7993 2619
    ∷ slot 3 13432 0
    ∷ slot 4 49397 9409
    ∷ slot 5 39073 14259
    ∷ slot 6 50728 0
    ∷ slot 7 63937 7857
    ∷ slot 8 78700 19400
    ∷ slot 9 95017 35211
    ∷ slot 10 112888 0
    ∷ slot 11 132313 16393
    ∷ slot 12 153292 38024
    ∷ slot 13 175825 65475
    ∷ slot 14 199912 0
    ∷ []

abbrev later : Bool → Observations
later use_bytes =
    record {
      use_byte_loss_ratio = use_bytes;
      partial_observation = Partial.none;
      last_send_time_most_recent_observation = Exact 5500000054;
      num_observations = 17;
      observations = slots;
      cached_instant_upper_bound = None;
    }

-- a ratio by its bits
abbrev ratio_bits : Observations → Result ℕ Refusal
ratio_bits o = and_then (average_reported_loss_ratio o) (λ ratio. Ok (to_bits binary64 ratio))

-- by bytes; by packets 1 of 9 in every slot
ratio_example : map (λ use_bytes. ratio_bits (later use_bytes)) (true ∷ false ∷ []) ≡ Ok 0x3FC7389E3ABEBC38 ∷ Ok 0x3FBC71C71C71C71A ∷ []
unfolding slots add div eq in_float mul of_bits of_int to_bits weight loss_ratio age window readable average_reported_loss_ratio
ratio_example = refl

ceiling_example : and_then (instant_upper_bound (later true)) (λ ceiling. Ok (to_bits binary64 ceiling.bps)) ≡ Ok 0x412738E4443DA647
unfolding slots add div eq in_float lt mul of_bits of_int sub to_bits Rate.over weight loss_ratio age window readable average_reported_loss_ratio
    loss_ceiling instant_limit instant_upper_bound
ceiling_example = refl

-- ---- the rows of slots 0, 1 and 2, whose ages are 1, 0 and 14: weight, lost, received and total

each : Row → List ℕ
each r = to_bits binary64 r.weight ∷ to_bits binary64 r.lost ∷ to_bits binary64 r.received ∷ to_bits binary64 r.total ∷ []

row_examples :
    each (row_of true 17 (slot 15 225553 28033)) ≡ 0x3FECCCCCCCCCCCCD ∷ 0x403C0872B020C49C ∷ 0x4068B0A3D70A3D71 ∷ 0x406C31B22D0E5604 ∷ []
    × each (row_of true 17 (slot 16 252748 62856)) ≡ 0x3FF0000000000000 ∷ 0x404F6D916872B021 ∷ 0x4067BC8B43958106 ∷ 0x406F97EF9DB22D0E ∷ []
    × each (row_of true 17 (slot 2 7993 2619)) ≡ 0x3FCD484471283D50 ∷ 0x4004F3B645A1CAC1 ∷ 0x40157EF9DB22D0E5 ∷ 0x401FF8D4FDF3B646 ∷ []
    × each (row_of false 17 (slot 16 252748 62856)) ≡ 0x3FF0000000000000 ∷ 0x3FF0000000000000 ∷ 0x4020000000000000 ∷ 0x4022000000000000 ∷ []
unfolding each div in_float mul of_bits of_int to_bits Size.float Size.kilobytes weight age row_of
row_examples = (refl, refl, refl, refl)

-- a size that no float holds is refused, but not in a slot that is not initialised, and not by packets
unreadable : readable true (slot 0 9007199254740992 9 ∷ []) ≡ true
    × readable true (slot 0 9007199254740993 9 ∷ []) ≡ false
    × readable true (dummy ∷ []) ≡ true
    × readable false (slot 0 9007199254740993 9 ∷ []) ≡ true
unfolding in_float readable
unreadable = (refl, refl, refl, refl)

-- ---- loss by packets (Q-7)

-- two reports 300 ms apart: of so many packets and bytes in all, so many of each lost, of which the second has one packet of so many bytes, which
-- arrived. "Its bytes and packets [..] count in the first observation": what is lost is the first report's
abbrev pads : Bool → ℕ → ℕ → ℕ → ℕ → ℕ → Observations
pads use_bytes packets lost bytes bytes_lost last =
    after (after (cleared use_bytes 0) (report (packets - 1) lost (bytes - last) bytes_lost 7)) (report 1 0 last 0 300000007)

-- the ceiling that is read then, as the bits of its rate
abbrev ceiling_bits : Observations → ℕ
ceiling_bits o = to_bits binary64 (cached o.cached_instant_upper_bound).bps

-- 1 of 20 packets lost: no ceiling; 2 of 20: 2,000,000 bit/s, whatever the bytes, also where there are none; by bytes 50 of 1,000: no ceiling
pad_ceilings :
    map ceiling_bits (pads false 20 1 1000 500 50 ∷ pads false 20 2 1000 500 50 ∷ pads false 20 2 0 0 0 ∷ pads true 20 2 1000 50 50 ∷ []) ≡
    0x7FF0000000000000 ∷ 0x413E848000000000 ∷ 0x413E848000000000 ∷ 0x7FF0000000000000 ∷ []
unfolding add div eq in_float lt mul of_bits of_int sub to_bits seconds Rate.over Size.float Delta.difference Delta.in_seconds Delta.order Delta.rate
    Time.since weight loss_ratio Partial.updated age window readable average_reported_loss_ratio loss_ceiling instant_limit instant_upper_bound valid_or_max
    cached cleared reference completes full observed stored with_ceiling with_partial renewed completed added
pad_ceilings = refl

-- sizes 1000, 10, 10 with the first lost: 1/3 by packets and 1000/1020 by bytes, and one sending rate, that of 1,020 bytes in 300 ms
pad_ratios :
    map (λ use_bytes. ratio_bits (pads use_bytes 3 1 1020 1000 10)) (false ∷ true ∷ []) ≡ Ok 0x3FD5555555555555 ∷ Ok 0x3FEF5F5F5F5F5F5F ∷ []
    × map (λ use_bytes. map (λ (o : Observation). to_bits binary64 o.sending_rate.bps) (take 1 (pads use_bytes 3 1 1020 1000 10).observations))
    (false ∷ true ∷ []) ≡
    (0x40DA900000000000 ∷ []) ∷ (0x40DA900000000000 ∷ []) ∷ []
unfolding add div eq in_float lt mul of_bits of_int sub to_bits seconds Rate.over Size.float Delta.difference Delta.in_seconds Delta.order Delta.rate
    Time.since weight loss_ratio Partial.updated age window readable average_reported_loss_ratio loss_ceiling instant_limit instant_upper_bound valid_or_max
    cached cleared reference completes full observed stored with_ceiling with_partial renewed completed added
pad_ratios = (refl, refl)

-- counts go to the nearest float: 2^53 + 1 to 2^53, a tie to the even one
far_counts : map (λ n. to_bits binary64 (nearest n)) (9007199254740993 ∷ 18446744073709551615 ∷ []) ≡ 0x4340000000000000 ∷ 0x43F0000000000000 ∷ []
unfolding of_int to_bits
far_counts = refl

-- ---- the ceiling of a ratio: 0.05 and a NaN set none, 1.0 the least that a list reaches; then 2.0 and infinity, which no list reaches
limit_examples :
    map (λ b. instant_limit (bits b)) (0x3FA999999999999A ∷ 0x7FF8000000000000 ∷ 0x3FF0000000000000 ∷ 0x4000000000000000 ∷ 0x7FF0000000000000 ∷ []) ≡
    map Rate.rate (inf false ∷ inf false ∷ bits 0x40F9B2F286BCA1AF ∷ bits 0x40E90A41A41A41A4 ∷ bits 0 ∷ [])
unfolding loss_ceiling instant_limit Rate.over add div eq lt of_bits sub
limit_examples = refl

-- The totals that pass the test are those of some report, and those of every report pass it. Assumes nothing.
use Rattle.std.proofs.Common.{◌≡◌, ℕ, zero, suc, ◌+◌, ◌-◌, ◌*◌, ◌≤◌, true, if◌then◌else◌, leb, List, [], ◌∷◌, map, length, Result, Ok, Err, refl, ap, subst, ◌∙◌, arith, lit≤, le-leb}
use Rattle.std.proofs.lemmas.Bool.Decides.{nat_tests}
use lib.ListN.{length-map}
use Rattle.refusal.specs.Outcome.{try_fold}
use Rattle.refusal.specs.declared.Refusal.{Refusal}
use Rattle.refusal.specs.declared.Refusal.TheVariants.{TooManyPackets}
use Rattle.refusal.proofs.Outcome.{both_ok}
use Rattle.packets.specs.Summary.{most_packets, latest_time, largest_packet, check_columns, packets, check_packet}
use Rattle.packets.specs.Summary.{empty, later, add_packet, summary_of, is_of_report}
use Rattle.packets.specs.declared.PacketResult.{PacketResult}
use Rattle.packets.specs.declared.PacketResultsSummary.{PacketResultsSummary}
use Rattle.packets.proofs.Totals.{TotalsOf, not_refused, packets_length, none_within, within_larger, within_more, bytes_within, of_report, totals_of}

-- ---- every report's totals pass the test

fold_within : (ps : List PacketResult) (n : ℕ) (s t : PacketResultsSummary) → try_fold add_packet s ps ≡ Ok t → TotalsOf n s → TotalsOf (n + length ps) t
fold_within [] n s t h w = let e : s ≡ t = cc in subst (λ u. TotalsOf (n + 0) u) e (within_larger s (omega arith) w)
fold_within (p ∷ ps) n s t h w =
    both_ok (add_packet s p) (λ u. try_fold add_packet u ps) t h (λ u added rest.
    within_larger t (omega arith) (fold_within ps (n + 1) u t rest (within_more n s p u added w)))

report_within : (times sizes flags : List ℕ) (s : PacketResultsSummary) → summary_of times sizes flags ≡ Ok s → TotalsOf most_packets s
unfolding summary_of
report_within times sizes flags s h =
    both_ok (check_columns times sizes flags) (λ checked. try_fold add_packet empty (packets times sizes flags)) s h (λ checked e folded.
    let even = not_refused times sizes flags e in
    within_larger s (omega (arith, packets_length times sizes flags even.sizes_even even.flags_even, even.few))
    (fold_within (packets times sizes flags) 0 empty s folded (none_within 0)))

pub report_passes : (times sizes flags : List ℕ) (s : PacketResultsSummary) → summary_of times sizes flags ≡ Ok s → is_of_report s ≡ true
report_passes times sizes flags s h = of_report s (report_within times sizes flags s h)

-- no report has more bytes than 4,096 × 9,999,999
pub report_bytes : (times sizes flags : List ℕ) (s : PacketResultsSummary) → summary_of times sizes flags ≡ Ok s → s.total_size ≤ largest_packet * most_packets
report_bytes times sizes flags s h = bytes_within s (report_within times sizes flags s h)

-- ---- the columns of packets

abbrev pub times : List PacketResult → List ℕ
times ps = map (λ (p : PacketResult). p.local_send_time) ps

abbrev pub sizes : List PacketResult → List ℕ
sizes ps = map (λ (p : PacketResult). p.size) ps

abbrev pub flags : List PacketResult → List ℕ
flags ps = map (λ (p : PacketResult). p.lost) ps

-- have one length
pub columns_even : (ps : List PacketResult) → check_columns (times ps) (sizes ps) (flags ps) ≡ (if leb (length ps) most_packets then Ok tt else Err TooManyPackets)
unfolding check_columns
columns_even ps =
    simp (
      length-map ps (λ (p : PacketResult). p.local_send_time),
      length-map ps (λ (p : PacketResult). p.size),
      length-map ps (λ (p : PacketResult). p.lost),
    )
    (grind (arith, nat_tests))

-- and tell of those packets
columns_of : (ps : List PacketResult) → packets (times ps) (sizes ps) (flags ps) ≡ ps
unfolding packets
columns_of [] = refl
columns_of (p ∷ ps) = ap (λ (qs : List PacketResult). p ∷ qs) (columns_of ps)

pub summary_of_lem : (ps : List PacketResult) → length ps ≤ most_packets → summary_of (times ps) (sizes ps) (flags ps) ≡ try_fold add_packet empty ps
unfolding summary_of
summary_of_lem ps few = rw (columns_even ps, le-leb (length ps) most_packets few, columns_of ps) refl

-- ---- packets that have given totals, all sent at one time

abbrev part : ℕ → ℕ
part bytes = if leb bytes largest_packet then bytes else largest_packet

part_small : (bytes : ℕ) → (part bytes ≤ largest_packet) × (part bytes ≤ bytes)
part_small bytes = (grind (arith, nat_tests), grind (arith, nat_tests))

-- what is left fits the packets that are left
part_left : (k bytes : ℕ) → bytes ≤ largest_packet * suc k → bytes - part bytes ≤ largest_packet * k
part_left k bytes h = grind (arith, nat_tests)

-- so many packets with one flag, the bytes spread over them, before others
spread : ℕ → ℕ → ℕ → ℕ → List PacketResult → List PacketResult
spread time flag zero bytes ps = ps
spread time flag (suc k) bytes ps = record { local_send_time = time; size = part bytes; lost = flag } ∷ spread time flag k (bytes - part bytes) ps

spread_length : (time flag k bytes : ℕ) (ps : List PacketResult) → length (spread time flag k bytes ps) ≡ k + length ps
unfolding spread
spread_length time flag zero bytes ps = omega arith
spread_length time flag (suc k) bytes ps = omega (arith, spread_length time flag k (bytes - part bytes) ps)

later_same : (time : ℕ) → later time time ≡ time
later_same time = grind (arith, nat_tests)

later_first : (time : ℕ) → later 0 time ≡ time
later_first time = grind (arith, nat_tests)

abbrev totals : ℕ → ℕ → ℕ → ℕ → ℕ → PacketResultsSummary
totals time n m bytes lost = record { num_packets = n; num_lost_packets = m; total_size = bytes; lost_size = lost; last_send_time = time }

module _ (time : ℕ) (early : time ≤ latest_time) where
  -- a packet of that time more
  one_more : (n m t l bytes flag : ℕ) → bytes ≤ largest_packet → flag ≤ 1
      → add_packet (totals time n m t l) (record { local_send_time = time; size = bytes; lost = flag }) ≡ Ok
      (totals time (n + 1) (m + flag) (t + bytes) (l + bytes * flag))
  unfolding add_packet check_packet
  one_more n m t l bytes flag b f = rw (le-leb time latest_time early, le-leb bytes largest_packet b, le-leb flag 1 f, later_same time) refl

  first_packet : (p : PacketResult) → p.local_send_time ≡ time → add_packet empty p ≡ add_packet (totals time 0 0 0 0) p
  unfolding add_packet
  first_packet p e = rw (e, later_first time, later_same time) refl

  totals_are : {n n' m m' t t' l l' : ℕ} → n ≡ n' → m ≡ m' → t ≡ t' → l ≡ l' → totals time n m t l ≡ totals time n' m' t' l'
  totals_are a b c d = λ i. totals time (a i) (b i) (c i) (d i)

  -- packets with one flag, then others
  spread_fold : (flag k bytes n m t l : ℕ) (ps : List PacketResult) → flag ≤ 1 → bytes ≤ largest_packet * k
      → try_fold add_packet (totals time n m t l) (spread time flag k bytes ps) ≡ try_fold add_packet
      (totals time (n + k) (m + k * flag) (t + bytes) (l + bytes * flag)) ps
  unfolding spread
  spread_fold flag zero bytes n m t l ps f h =
      let z : bytes ≡ 0 = omega arith in
      rw z (ap (λ (a : PacketResultsSummary). try_fold add_packet a ps) (totals_are (omega arith) (omega arith) (omega arith) (omega arith)))
  spread_fold flag (suc k) bytes n m t l ps f h =
      let rest = bytes - part bytes in
      let p : part bytes + rest ≡ bytes = omega (arith, part_small bytes) in
      let q = ap (λ (x : ℕ). x * flag) p in
      rw (one_more n m t l (part bytes) flag (part_small bytes).0 f)
      (spread_fold flag k rest (n + 1) (m + flag) (t + part bytes) (l + part bytes * flag) ps f (part_left k bytes h)
      ∙ ap (λ (a : PacketResultsSummary). try_fold add_packet a ps)
      (totals_are {n = n + 1 + k} {m = m + flag + k * flag} {t = t + part bytes + rest} {l = l + part bytes * flag + rest * flag}
      (omega arith) (omega arith) (omega arith) (omega arith)))

  made : ℕ → ℕ → ℕ → ℕ → List PacketResult
  made m r lost others = spread time 1 m lost (spread time 0 r others [])

  started : (m r lost others : ℕ) → (m + r ≡ 0 → time ≡ 0)
      → try_fold add_packet empty (made m r lost others) ≡ try_fold add_packet (totals time 0 0 0 0) (made m r lost others)
  unfolding made spread
  started zero zero lost others h = rw (h refl) refl
  started zero (suc r) lost others h = rw (first_packet (record { local_send_time = time; size = part others; lost = 0 }) refl) refl
  started (suc m) r lost others h = rw (first_packet (record { local_send_time = time; size = part lost; lost = 1 }) refl) refl

-- ---- totals that pass the test are some report's

-- the packets of a report that has these totals, none of them refused
pub record ReportOf (s : PacketResultsSummary) : Type 0 where
  pub sent : List PacketResult
  pub few : length sent ≤ most_packets
  pub sums : summary_of (times sent) (sizes sent) (flags sent) ≡ Ok s

pub some_report : (s : PacketResultsSummary) → is_of_report s ≡ true → s.last_send_time ≤ latest_time → ReportOf s
unfolding made
some_report s e early =
    let w = totals_of s e in
    let time = s.last_send_time in
    let m = s.num_lost_packets in
    let r = s.num_packets - m in
    let others = s.total_size - s.lost_size in
    let ps = made time early m r s.lost_size others in
    let long : length ps ≡ m + r = omega (arith, spread_length time 1 m s.lost_size (spread time 0 r others []), spread_length time 0 r others []) in
    let few : length ps ≤ most_packets = omega (arith, w.packets_within, w.lost_packets_within) in
    let taken : PacketResultsSummary → Result PacketResultsSummary Refusal = λ t. Ok t in
    record {
      sent = ps;
      few = few;
      sums = summary_of_lem ps few ∙ (started time early m r s.lost_size others (λ z. w.timed (omega (arith, w.lost_packets_within)))
          ∙ (spread_fold time early 1 m s.lost_size 0 0 0 0 _ (lit≤ tt) w.lost_within
          ∙ (spread_fold time early 0 r others _ _ _ _ [] (lit≤ tt) w.others_within
          ∙ ap taken (totals_are time early (omega (arith, w.lost_packets_within)) (omega arith) (omega (arith, w.lost_size_within)) (omega arith)))));
    }

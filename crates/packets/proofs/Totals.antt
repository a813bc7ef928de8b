-- The list of packets that three columns of one length make, and how far one packet takes the totals. Assumes nothing.
use Rattle.std.proofs.Common.{Bor, Iter, Option, Some, None, ◌≡◌, ℕ, zero, suc, ◌+◌, ◌-◌, ◌*◌, ◌<◌, ◌≤◌, List, [], ◌∷◌, length, get_or, drop, Ok, refl, ap, mul-le-mul_left, mul-one, arith, lit≤, true, subst}
use Rattle.std.specs.Iterator.{Yields}
use Rattle.std.specs.Iterator.Adapters.{zip_first, zip_second}
use Rattle.std.specs.List.{zip}
use Rattle.std.specs.Slice.Iter.{iter_rest}
use Rattle.std.specs.declared.iter.Zip.{Zip}
use Rattle.std.proofs.iter.Yields.{fronts}
use Rattle.std.proofs.lemmas.Iterator.{zips, YieldsList, YieldsList-from_slice, YieldsList-from_zip}
use Rattle.std.proofs.lemmas.Iterator.Consumers.{YieldsList-turn, YieldsList-end}
use Rattle.std.proofs.lemmas.Bool.Decides.{nat_tests}
use Rattle.refusal.specs.Outcome.{and_then, try_fold}
use Rattle.refusal.proofs.Outcome.{both_ok, fold_turn, fold_end, fold_keeps}
use Rattle.packets.specs.Summary.{
  most_packets,
  latest_time,
  largest_packet,
  check_columns,
  packets,
  check_packet,
  empty,
  plus,
  add_packet,
  summary_of,
  is_of_report,
  added,
}
use Rattle.packets.specs.declared.PacketResult.{PacketResult}
use Rattle.packets.specs.declared.PacketResultsSummary.{PacketResultsSummary}

-- ---- columns

-- what columns that are not refused have
pub record Even (times sizes flags : List ℕ) : Type 0 where
  pub sizes_even : length sizes ≡ length times
  pub flags_even : length flags ≡ length times
  pub few : length times ≤ most_packets

pub not_refused : (times sizes flags : List ℕ) → check_columns times sizes flags ≡ Ok tt → Even times sizes flags
unfolding check_columns
not_refused times sizes flags h =
    record { sizes_even = grind (arith, nat_tests); flags_even = grind (arith, nat_tests); few = grind (arith, nat_tests) }

pub packets_length : (times sizes flags : List ℕ) → length sizes ≡ length times → length flags ≡ length times
    → length (packets times sizes flags) ≡ length times
unfolding packets
packets_length [] sizes flags h k = refl
packets_length (t ∷ ts) [] flags h k = absurd (omega arith)
packets_length (t ∷ ts) (s ∷ ss) [] h k = absurd (omega arith)
packets_length (t ∷ ts) (s ∷ ss) (f ∷ fs) h k = ap suc (packets_length ts ss fs (omega arith) (omega arith))

-- the packet of a row
abbrev pub packet_at : List ℕ → List ℕ → List ℕ → ℕ → PacketResult
packet_at times sizes flags i = record { local_send_time = get_or times i 0; size = get_or sizes i 0; lost = get_or flags i 0 }

pub packets_at : (times sizes flags : List ℕ) (i : ℕ) (d : PacketResult) → length sizes ≡ length times → length flags ≡ length times → i < length times
    → get_or (packets times sizes flags) i d ≡ packet_at times sizes flags i
unfolding packets
packets_at [] sizes flags i d h k l = absurd (omega arith)
packets_at (t ∷ ts) [] flags i d h k l = absurd (omega arith)
packets_at (t ∷ ts) (s ∷ ss) [] i d h k l = absurd (omega arith)
packets_at (t ∷ ts) (s ∷ ss) (f ∷ fs) zero d h k l = refl
packets_at (t ∷ ts) (s ∷ ss) (f ∷ fs) (suc i) d h k l = packets_at ts ss fs i d (omega arith) (omega arith) (omega arith)

-- the item of the columns side by side, and how many there are
pub zipped_at : (times sizes flags : List ℕ) (i : ℕ) (d : (ℕ × ℕ) × ℕ) → i < length (zip (zip times sizes) flags) → d ≡ get_or (zip (zip times sizes) flags) i d
    → (i < length times) × (packet_at times sizes flags i ≡ record { local_send_time = d.0.0; size = d.0.1; lost = d.1 })
zipped_at [] sizes flags i d l h = absurd (omega arith)
zipped_at (t ∷ ts) [] flags i d l h = absurd (omega arith)
zipped_at (t ∷ ts) (s ∷ ss) [] i d l h = absurd (omega arith)
zipped_at (t ∷ ts) (s ∷ ss) (f ∷ fs) zero d l h = (omega arith, rw h refl)
zipped_at (t ∷ ts) (s ∷ ss) (f ∷ fs) (suc i) d l h = let at = zipped_at ts ss fs i d (omega arith) h in (omega arith, at.1)

pub zipped_length : (times sizes flags : List ℕ) → length sizes ≡ length times → length flags ≡ length times → length (zip (zip times sizes) flags) ≡ length times
zipped_length [] sizes flags h k = refl
zipped_length (t ∷ ts) [] flags h k = absurd (omega arith)
zipped_length (t ∷ ts) (s ∷ ss) [] h k = absurd (omega arith)
zipped_length (t ∷ ts) (s ∷ ss) (f ∷ fs) h k = ap suc (zipped_length ts ss fs (omega arith) (omega arith))

-- a turn of a `for` over the columns side by side, which has given xs, and its end
module _ (times sizes flags : List ℕ) (s : Zip (Zip (Iter ℕ) (Iter ℕ)) (Iter ℕ))
    (first : iter_rest (zip_first (zip_first s)) ≡ times) (second : iter_rest (zip_second (zip_first s)) ≡ sizes) (third : iter_rest (zip_second s) ≡ flags)
    (xs : List ((Bor ℕ × Bor ℕ) × Bor ℕ)) (t u : Zip (Zip (Iter ℕ) (Iter ℕ)) (Iter ℕ)) (r : Option ((Bor ℕ × Bor ℕ) × Bor ℕ))
    (given : Yields (zips (zips fronts fronts) fronts) s xs t) (next : zips (zips fronts fronts) fronts t r u) where
  columns_listed : YieldsList (zips (zips fronts fronts) fronts) (λ p. ((p.0.0.now, p.0.1.now), p.1.now)) s (zip (zip times sizes) flags)
  columns_listed =
      YieldsList-from_zip (YieldsList-from_zip (YieldsList-from_slice times first) (YieldsList-from_slice sizes second)) (YieldsList-from_slice flags third)

  pub row_given : (p : (Bor ℕ × Bor ℕ) × Bor ℕ) → r ≡ Some p → (length xs < length times)
      × (packet_at times sizes flags (length xs) ≡ record { local_send_time = p.0.0.now; size = p.0.1.now; lost = p.1.now })
  row_given p is =
      let item = YieldsList-turn columns_listed xs t given r u p is next in
      zipped_at times sizes flags (length xs) _ item.0 item.1

  pub rows_given : Even times sizes flags → r ≡ None → length times ≤ length xs
  rows_given e is =
      let end = YieldsList-end columns_listed xs t given r u is next in
      omega (arith, end.1, zipped_length times sizes flags e.sizes_even e.flags_even)

-- a turn of the loop over three columns, and its end
module _ {times sizes flags : List ℕ} (e : Even times sizes flags) where
  pub columns_turn : (s : PacketResultsSummary) (i : ℕ) → i < length times
      → try_fold add_packet s (drop i (packets times sizes flags)) ≡ and_then (add_packet s (packet_at times sizes flags i)) (λ t. try_fold add_packet t (drop (i + 1) (packets times sizes flags)))
  columns_turn s i l =
      let d = packet_at times sizes flags i in
      let l' : i < length (packets times sizes flags) = rw (packets_length times sizes flags e.sizes_even e.flags_even) l in
      rw (fold_turn add_packet s (packets times sizes flags) i d l', packets_at times sizes flags i d e.sizes_even e.flags_even l)

  pub columns_end : (s : PacketResultsSummary) (i : ℕ) → length times ≤ i → try_fold add_packet s (drop i (packets times sizes flags)) ≡ Ok s
  columns_end s i l = fold_end add_packet s (packets times sizes flags) i (rw (packets_length times sizes flags e.sizes_even e.flags_even) l)

-- ---- totals

-- what a packet that is taken has
pub record TakenPacket (p : PacketResult) : Type 0 where
  pub early : p.local_send_time ≤ latest_time
  pub size_within : p.size ≤ largest_packet
  pub flag_small : p.lost ≤ 1

pub packet_taken : (p : PacketResult) → check_packet p ≡ Ok tt → TakenPacket p
unfolding check_packet
packet_taken p h = record { early = grind (arith, nat_tests); size_within = grind (arith, nat_tests); flag_small = grind (arith, nat_tests) }

pub lost_part : (p : PacketResult) → check_packet p ≡ Ok tt → p.size * p.lost ≤ p.size
lost_part p h = omega (arith, mul-le-mul_left p.size (packet_taken p h).flag_small, mul-one p.size)

-- a packet that is added was taken
pub add_taken : {P : Type 0} (s : PacketResultsSummary) (p : PacketResult) (t : PacketResultsSummary) → add_packet s p ≡ Ok t
    → (check_packet p ≡ Ok tt → plus s p ≡ t → P) → P
unfolding add_packet
add_taken s p t h k = both_ok (check_packet p) (λ checked. Ok (plus s p)) t h (λ checked e same. k e cc)

-- what empty totals have, and every packet that is taken keeps, holds of the totals of every report
pub summary_holds : (P : PacketResultsSummary → Type 0) → P empty
    → ((s : PacketResultsSummary) (p : PacketResult) → check_packet p ≡ Ok tt → P s → P (plus s p))
    → (times sizes flags : List ℕ) (s : PacketResultsSummary) → summary_of times sizes flags ≡ Ok s → P s
unfolding summary_of
summary_holds P none more times sizes flags s h =
    both_ok (check_columns times sizes flags) _ s h (λ checked e folded.
    fold_keeps add_packet P (λ s p t added held. add_taken s p t added (λ taken same. subst P same (more s p taken held))) empty _ s folded none)

-- no summary has a later send time than that
pub summary_early : (times sizes flags : List ℕ) (s : PacketResultsSummary) → summary_of times sizes flags ≡ Ok s → s.last_send_time ≤ latest_time
summary_early =
    summary_holds (λ (s : PacketResultsSummary). s.last_send_time ≤ latest_time) (lit≤ tt)
    (λ s p e h. let taken = packet_taken p e in grind (arith, nat_tests))

-- the totals of at most n packets
pub record TotalsOf (n : ℕ) (s : PacketResultsSummary) : Type 0 where
  pub packets_within : s.num_packets ≤ n
  pub lost_packets_within : s.num_lost_packets ≤ s.num_packets
  pub lost_size_within : s.lost_size ≤ s.total_size
  pub lost_within : s.lost_size ≤ largest_packet * s.num_lost_packets
  pub others_within : s.total_size - s.lost_size ≤ largest_packet * (s.num_packets - s.num_lost_packets)
  pub timed : s.num_packets ≡ 0 → s.last_send_time ≡ 0

pub none_within : (n : ℕ) → TotalsOf n empty
none_within n =
    record {
      packets_within = omega arith;
      lost_packets_within = omega arith;
      lost_size_within = omega arith;
      lost_within = omega arith;
      others_within = omega arith;
      timed = λ z. refl;
    }

pub within_larger : {m n : ℕ} (s : PacketResultsSummary) → m ≤ n → TotalsOf m s → TotalsOf n s
within_larger s h w =
    record {
      packets_within = omega (arith, w.packets_within);
      lost_packets_within = w.lost_packets_within;
      lost_size_within = w.lost_size_within;
      lost_within = w.lost_within;
      others_within = w.others_within;
      timed = w.timed;
    }

-- so many packets have at most so many bytes
pub bytes_within : {n : ℕ} (s : PacketResultsSummary) → TotalsOf n s → s.total_size ≤ largest_packet * n
bytes_within s w = omega (arith, w.packets_within, w.lost_packets_within, w.lost_size_within, w.lost_within, w.others_within)

-- what a packet that is taken has is within the largest size, lost or not
shares : (p : PacketResult) → check_packet p ≡ Ok tt
    → (p.size * p.lost ≤ largest_packet * p.lost) × (p.size + largest_packet * p.lost ≤ largest_packet + p.size * p.lost)
shares p h = go p.lost (packet_taken p h).flag_small
  where
    go : (f : ℕ) → f ≤ 1 → (p.size * f ≤ largest_packet * f) × (p.size + largest_packet * f ≤ largest_packet + p.size * f)
    go zero k = (omega arith, omega (arith, (packet_taken p h).size_within))
    go (suc zero) k = (omega (arith, (packet_taken p h).size_within), omega arith)
    go (suc (suc f)) k = absurd (omega arith)

-- a packet that is taken makes them totals of one packet more
plus_within : (n : ℕ) (s : PacketResultsSummary) (p : PacketResult) → check_packet p ≡ Ok tt → TotalsOf n s → TotalsOf (n + 1) (plus s p)
plus_within n s p e w =
    let flag = (packet_taken p e).flag_small in
    record {
      packets_within = omega (arith, w.packets_within);
      lost_packets_within = omega (arith, w.lost_packets_within, flag);
      lost_size_within = omega (arith, w.lost_size_within, lost_part p e);
      lost_within = omega (arith, w.lost_within, (shares p e).0);
      others_within = omega (arith, w.others_within, w.lost_size_within, w.lost_packets_within, lost_part p e, flag, (shares p e).1);
      timed = λ z. absurd (omega arith);
    }

pub within_more : (n : ℕ) (s : PacketResultsSummary) (p : PacketResult) (t : PacketResultsSummary) → add_packet s p ≡ Ok t → TotalsOf n s → TotalsOf (n + 1) t
within_more n s p t h w = add_taken s p t h (λ taken same. subst (λ u. TotalsOf (n + 1) u) same (plus_within n s p taken w))

-- ---- the test for totals

pub of_report : (s : PacketResultsSummary) → TotalsOf most_packets s → is_of_report s ≡ true
unfolding is_of_report
of_report s w = grind (arith, nat_tests)

pub totals_of : (s : PacketResultsSummary) → is_of_report s ≡ true → TotalsOf most_packets s
unfolding is_of_report
totals_of s e =
    record {
      packets_within = grind (arith, nat_tests);
      lost_packets_within = grind (arith, nat_tests);
      lost_size_within = grind (arith, nat_tests);
      lost_within = grind (arith, nat_tests);
      others_within = grind (arith, nat_tests);
      timed = λ z. grind (arith, nat_tests);
    }

-- one packet more is `add_packet` on the totals of fewer than 4,096 packets
pub added_is : (s : PacketResultsSummary) (p : PacketResult) → TotalsOf 4095 s → added s p ≡ add_packet s p
unfolding added
added_is s p w =
    let room = w.packets_within in
    rw (of_report s (within_larger s (lit≤ tt) w)) (grind (arith, nat_tests))

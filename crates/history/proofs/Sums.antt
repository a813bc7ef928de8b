-- The totals of a report in the controller are those of the history, and it is refused as the first packet is. Assumes nothing.
use Rattle.std.proofs.Common.{rules, ◌≡◌, ℕ, ◌+◌, max, cond, List, [], ◌∷◌, length, Ok, fold, zip, arith, eqb}
use Rattle.refusal.specs.Outcome.{try_fold}
use Rattle.refusal.proofs.Alike.{Alike, answers, same, alike_weaken}
use Rattle.packets.specs.Summary.{check_columns, packets, empty, plus, add_packet, summary_of}
use Rattle.packets.specs.declared.PacketResult.{PacketResult}
use Rattle.packets.specs.declared.PacketResultsSummary.{PacketResultsSummary}
use Rattle.packets.proofs.Totals.{not_refused, packet_taken}
use Rattle.history.specs.Refusals.{check_packets}

-- s are the totals of a report with these columns, added to those of z, as the history adds them
pub record Summed (z s : PacketResultsSummary) (times sizes flags : List ℕ) : Type 0 where
  pub packets : s.num_packets ≡ z.num_packets + length times
  pub bytes : s.total_size ≡ fold (λ a size. a + size) z.total_size sizes
  pub lost_bytes : s.lost_size ≡ fold (λ a (p : ℕ × ℕ). a + cond (eqb p.1 1) p.0 0) z.lost_size (zip sizes flags)
  pub lost_packets : s.num_lost_packets ≡ fold (λ a flag. a + cond (eqb flag 1) 1 0) z.num_lost_packets flags
  pub last : s.last_send_time ≡ fold max z.last_send_time times

-- packet by packet, or the refusal of the first that has one
summed_from : (z : PacketResultsSummary) (times sizes flags : List ℕ) → length sizes ≡ length times → length flags ≡ length times
    → let ps = packets times sizes flags in Alike (λ s _. Summed z s times sizes flags) (try_fold add_packet z ps) (check_packets ps)
unfolding packets add_packet
summed_from z [] [] [] e f = search (rules, answers)
summed_from z [] [] (flag ∷ fs) e f = absurd (omega arith)
summed_from z [] (b ∷ bs) flags e f = absurd (omega arith)
summed_from z (t ∷ ts) [] flags e f = absurd (omega arith)
summed_from z (t ∷ ts) (b ∷ bs) [] e f = absurd (omega arith)
summed_from z (t ∷ ts) (b ∷ bs) (flag ∷ fs) e f =
    let p : PacketResult = record { local_send_time = t; size = b; lost = flag } in
    search (rules, alike_weaken, summed_from (plus z p) ts bs fs, packet_taken p, same)

-- a report whose columns are taken has them, or the first packet's refusal
pub summed : (times sizes flags : List ℕ) → check_columns times sizes flags ≡ Ok tt
    → Alike (λ s _. Summed empty s times sizes flags) (summary_of times sizes flags) (check_packets (packets times sizes flags))
unfolding summary_of
summed times sizes flags h =
    let even = not_refused times sizes flags h in
    rw h (summed_from empty times sizes flags even.sizes_even even.flags_even)

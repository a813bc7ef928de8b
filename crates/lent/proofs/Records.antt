-- Records summed one by one give what their columns give. Assumes nothing.
use Rattle.std.proofs.Common.{◌≡◌, ℕ, ◌+◌, ◌≤◌, ◌<◌, List, length, get_or, drop, Ok, Err, sym, ◌∙◌, arith, le-leb}
use Rattle.std.proofs.lemmas.Bool.{lt-leb}
use Rattle.refusal.specs.Outcome.{and_then, try_fold}
use Rattle.refusal.specs.declared.Refusal.{Refusal}
use Rattle.refusal.specs.declared.Refusal.TheVariants.{TooManyPackets}
use Rattle.refusal.proofs.Outcome.{fold_turn, fold_end}
use Rattle.bandwidth.specs.declared.Bitrate.{Bitrate}
use Rattle.packets.specs.Summary.{most_packets, latest_time, check_time, empty, add_packet, added}
use Rattle.packets.specs.declared.PacketResult.{PacketResult}
use Rattle.packets.specs.declared.PacketResultsSummary.{PacketResultsSummary}
use Rattle.packets.proofs.Totals.{TotalsOf, within_larger, within_more, added_is, summary_early}
use Rattle.packets.proofs.Reports.{columns_even, summary_of_lem, report_passes}
use Rattle.loss_controller.specs.Setters.{check_rate}
use Rattle.loss_controller.specs.Report.{reported, update_bandwidth_estimate, update_with_summary}
use Rattle.loss_controller.specs.declared.LossController.{LossController}
use Rattle.lent.specs.Records.{times, sizes, flags, update_records}

-- ---- the loop

-- after i turns: the totals are of at most i packets, and the records that are left give the whole
pub record Summed (ps : List PacketResult) (i : ℕ) (s : PacketResultsSummary) : Type 0 where
  pub few : length ps ≤ most_packets
  pub within : TotalsOf i s
  pub left : try_fold add_packet s (drop i ps) ≡ try_fold add_packet empty ps

module _ (ps : List PacketResult) (i : ℕ) (s : PacketResultsSummary) (k : Summed ps i s) where
  module _ (d : PacketResult) (l : i < length ps) where
    abbrev p : PacketResult
    p = get_or ps i d

    is : added s p ≡ add_packet s p
    is = added_is s p (within_larger s (omega (arith, k.few, l)) k.within)

    turn : and_then (added s p) (λ t. try_fold add_packet t (drop (i + 1) ps)) ≡ try_fold add_packet empty ps
    turn = rw is (sym (fold_turn add_packet s ps i d l) ∙ k.left)

    pub summed_more : (t : PacketResultsSummary) → added s p ≡ Ok t → Summed ps (i + 1) t
    summed_more t e = record { few = k.few; within = within_more i s p t (sym is ∙ e) k.within; left = rw e at turn }

    -- a record that is refused gives the whole's refusal
    pub record_refused : (e : Refusal) → added s p ≡ Err e → try_fold add_packet empty ps ≡ Err e
    record_refused e h = sym (rw h at turn)

  pub summed_all : length ps ≤ i → try_fold add_packet empty ps ≡ Ok s
  summed_all l = sym k.left ∙ fold_end add_packet s ps i l

-- ---- the report

module _ (c : LossController) (ps : List PacketResult) (delay : Bitrate) where
  pub too_many : most_packets < length ps → update_records c ps delay ≡ Err TooManyPackets
  unfolding update_bandwidth_estimate
  too_many more = rw (columns_even ps, lt-leb _ _ more)

  module _ (few : length ps ≤ most_packets) where
    pub rate_refused : (e : Refusal) → check_rate delay ≡ Err e → update_records c ps delay ≡ Err e
    unfolding update_bandwidth_estimate
    rate_refused e rate = rw (columns_even ps, le-leb _ _ few, rate)

    module _ (rate : check_rate delay ≡ Ok tt) where
      pub whole : update_records c ps delay ≡ and_then (try_fold add_packet empty ps) (λ s. reported c s delay)
      unfolding update_bandwidth_estimate
      whole = rw (columns_even ps, le-leb _ _ few, rate, summary_of_lem ps few)

      -- totals of packets that were taken get neither 5 nor 2 nor 3 any more
      pub same_report : (s : PacketResultsSummary) → try_fold add_packet empty ps ≡ Ok s → update_with_summary c s delay ≡ update_records c ps delay
      unfolding update_with_summary check_time
      same_report s e =
          let is = summary_of_lem ps few ∙ e in
          let passes = report_passes (times ps) (sizes ps) (flags ps) s is in
          let early : s.last_send_time ≤ latest_time = summary_early (times ps) (sizes ps) (flags ps) s is in
          rw (passes, rate, le-leb s.last_send_time latest_time early) (sym (rw e at whole))

-- A report by its totals is the report over columns that have these totals, and every total that is taken is had by some columns, so that what is proved of
-- every list of reports holds of `update_with_summary` too. Assumes nothing.
use Rattle.std.proofs.Common.{◌≡◌, ℕ, ◌≤◌, true, List, Ok, refl, le-leb}
use Rattle.refusal.specs.Outcome.{and_then, try_fold}
use Rattle.refusal.proofs.Outcome.{both_ok}
use Rattle.bandwidth.specs.declared.Bitrate.{Bitrate}
use Rattle.packets.specs.Summary.{latest_time, check_time, check_columns, packets, empty, add_packet, summary_of, is_of_report}
use Rattle.packets.specs.declared.PacketResultsSummary.{PacketResultsSummary}
use Rattle.packets.proofs.Totals.{summary_early}
use Rattle.packets.proofs.Reports.{times, sizes, flags, ReportOf, report_passes, some_report}
use Rattle.loss_controller.specs.Setters.{check_rate}
use Rattle.loss_controller.specs.Report.{reported, update_bandwidth_estimate, update_with_summary}
use Rattle.loss_controller.specs.declared.LossController.{LossController}

-- columns that are summed up have no refusal of their own
columns_taken : (ts ss fs : List ℕ) (s : PacketResultsSummary) → summary_of ts ss fs ≡ Ok s → check_columns ts ss fs ≡ Ok tt
unfolding summary_of
columns_taken ts ss fs s h =
    both_ok (check_columns ts ss fs) (λ _. try_fold add_packet empty (packets ts ss fs)) s h (λ checked e folded.
    let taken : check_columns ts ss fs ≡ Ok tt = e in taken)

-- a report by its totals is the report over some columns that have these totals
pub record AsReport (c : LossController) (s : PacketResultsSummary) (delay : Bitrate) : Type 0 where
  pub report : ReportOf s
  pub same : update_with_summary c s delay ≡ update_bandwidth_estimate c (times report.sent) (sizes report.sent) (flags report.sent) delay

module _ (c : LossController) (delay : Bitrate) where
  module _ (ts ss fs : List ℕ) (s : PacketResultsSummary) (summed : summary_of ts ss fs ≡ Ok s) where
    -- totals of columns get neither 5 nor 3
    pub with_summary : update_with_summary c s delay ≡ and_then (check_rate delay) (λ _. reported c s delay)
    unfolding update_with_summary check_time
    with_summary = rw (report_passes ts ss fs s summed, le-leb s.last_send_time latest_time (summary_early ts ss fs s summed)) refl

    -- every report that is taken so far is the report by its totals
    pub by_summary : update_with_summary c s delay ≡ update_bandwidth_estimate c ts ss fs delay
    unfolding update_bandwidth_estimate
    by_summary = rw (columns_taken ts ss fs s summed, summed) with_summary

  -- and totals that get neither 5 nor 3 are those of some report
  pub as_report : (s : PacketResultsSummary) → is_of_report s ≡ true → s.last_send_time ≤ latest_time → AsReport c s delay
  as_report s e early =
      let r = some_report s e early in
      record { report = r; same = by_summary (times r.sent) (sizes r.sent) (flags r.sent) s r.sums }

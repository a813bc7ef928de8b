-- `packets::PacketResultsSummary::add_packet` meets its contract. Assumes nothing.
use Rattle.std.proofs.Common.{sym, ◌∙◌, arith}
use Rattle.packets.proofs.Totals.{lost_part, bytes_within, totals_of}
use Rattle.packets.proofs.PacketResultsSummary.add_packet.Goals as goal

pub overflow_add-result-2 : goal.overflow_add-result-2
overflow_add-result-2 c = omega (arith, totals_of _ c.requires.0)

pub overflow_add-result-3 : goal.overflow_add-result-3
overflow_add-result-3 c = omega (arith, bytes_within _ (totals_of _ c.requires.0))

pub overflow_add-result-4 : goal.overflow_add-result-4
overflow_add-result-4 c =
    rw (c.from-size.ensures, c.from-lost.ensures)
    (omega (arith, lost_part _ (sym c.check.ensures ∙ c.in_ok-check.was), totals_of _ c.requires.0))

-- `packets::summary` meets its contract. The loop's invariant: the packets that are left, added to the totals so far, give the whole, and those totals are
-- of at most as many packets as were passed. Assumes nothing.
use Rattle.std.proofs.Common.{◌≡◌, length, drop}
use Rattle.refusal.specs.Outcome.{try_fold}
use Rattle.packets.specs.Summary.{packets, add_packet, summary_of}
use Rattle.packets.proofs.Totals.{TotalsOf, Even}
use Rattle.packets.proofs.summary.Given as goal

abbrev pub invariant-loop-time : goal.invariant-loop-time
invariant-loop-time l =
    let passed = length l.yielded in
    TotalsOf passed l.summary × Even l.times l.sizes l.flags
    × (try_fold add_packet l.summary (drop passed (packets l.times l.sizes l.flags)) ≡ summary_of l.times l.sizes l.flags)

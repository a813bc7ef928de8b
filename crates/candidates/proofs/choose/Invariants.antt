-- `choose` meets its contract. The loop's invariant: what is left of the candidates leads from the best so far to the best of all.
-- Assumes nothing.
use Rattle.std.proofs.Common.{◌≡◌, drop}
use Rattle.refusal.specs.Outcome.{try_fold}
use Rattle.candidates.specs.Choice.{better, start}
use Rattle.candidates.proofs.choose.Given as goal

abbrev pub invariant-loop-candidate : goal.invariant-loop-candidate
invariant-loop-candidate l =
    let next = better l.use_byte_loss_ratio l.rows l.average_reported_loss_ratio in
    try_fold next (record { objective_max = l.objective_max; best_candidate = l.best_candidate }) (drop l.candidate-index l.candidates)
    ≡ try_fold next (start l.fn.current) l.candidates

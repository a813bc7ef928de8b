-- `objective_by` meets its contract. The loop's invariant: what is left of the rows, added to the objective so far, gives the whole.
-- Assumes nothing.
use Rattle.std.proofs.Common.{◌≡◌, drop}
use denote.Param.{number}
use Rattle.refusal.specs.Outcome.{try_fold}
use Rattle.likelihood.specs.contracts.objective_by.{BY_BYTES-type}
use Rattle.likelihood.specs.Objective.{add_terms, objective}
use Rattle.likelihood.proofs.objective_by.Given as goal

abbrev pub invariant-loop-row : goal.invariant-loop-row
invariant-loop-row g l =
    let by_bytes = BY_BYTES-type (number g.row.BY_BYTES) in
    try_fold (add_terms by_bytes l.candidate l.high_bandwidth_bias) l.objective (drop l.row-index l.rows)
    ≡ objective by_bytes l.rows l.average_reported_loss_ratio l.candidate

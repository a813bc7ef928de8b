-- `observation::Observations::average_reported_loss_ratio` meets its contract. The loop's invariant: the slots that are left, added to the sums so far,
-- give the whole. Assumes nothing.
use Rattle.std.proofs.Common.{◌≡◌, drop}
use Rattle.refusal.specs.Outcome.{try_fold}
use Rattle.float.specs.Rounded.{bits}
use Rattle.observation.specs.Steps.{summed}
use Rattle.observation.proofs.Observations.average_reported_loss_ratio.Given as goal

abbrev pub invariant-loop-observation : goal.invariant-loop-observation
invariant-loop-observation l =
    let o = l.fn.self in
    let add = summed o.use_byte_loss_ratio o.num_observations in
    try_fold add (l.total, l.lost) (drop l.observation-index o.observations) ≡ try_fold add (bits 0, bits 0) o.observations

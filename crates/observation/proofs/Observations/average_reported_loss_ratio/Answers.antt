-- `observation::Observations::average_reported_loss_ratio` meets its contract: a slot that is not readable ends the loop. Assumes nothing.
use Rattle.std.proofs.Common.{arith}
use Rattle.std.proofs.lemmas.List.Folds.{list_all_at}
use Rattle.std.proofs.lemmas.Result.{err_from_is_err_and}
use Rattle.observation.specs.Ratio.{readable, average_reported_loss_ratio}
use Rattle.observation.specs.Steps.{total_and_lost}
use Rattle.observation.proofs.Observations.average_reported_loss_ratio.Goals as goal

pub returns-in_err-its_total : goal.returns-in_err-its_total
unfolding total_and_lost readable average_reported_loss_ratio
returns-in_err-its_total c =
    let p = err_from_is_err_and c.from_residual.result c.from_residual.ensures.1 in rw (p.1, p.2) (grind (arith, list_all_at))

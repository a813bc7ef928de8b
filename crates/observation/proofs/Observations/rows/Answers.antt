-- `observation::Observations::rows` meets its contract: a slot that is not readable ends the loop. Assumes nothing.
use Rattle.std.proofs.Common.{arith}
use Rattle.std.proofs.lemmas.List.Folds.{list_all_at}
use Rattle.std.proofs.lemmas.Result.{err_from_is_err_and}
use Rattle.observation.specs.Ratio.{readable}
use Rattle.observation.specs.Rows.{rows}
use Rattle.observation.specs.Steps.{row}
use Rattle.observation.proofs.Observations.rows.Goals as goal

pub returns-in_err-rows : goal.returns-in_err-rows
unfolding readable rows row
returns-in_err-rows c =
    let p = err_from_is_err_and c.from_residual.result c.from_residual.ensures.1 in rw (p.1, p.2) (grind (arith, list_all_at))

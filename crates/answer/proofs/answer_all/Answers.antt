-- The run begins fresh. Assumes nothing.
use Rattle.call_list.specs.Whole.{answers}
use Rattle.turns.proofs.Turning.{begins}
use Rattle.answer.specs.Turn.{Run}
use Rattle.answer.proofs.Turns.{fresh_run}
use Rattle.answer.proofs.answer_all.Goals as goal

pub returns : goal.returns
returns g c = (c.run.new.program, c.run.ensures (begins answers Run _ _ (fresh_run _ c.new.ensures)))

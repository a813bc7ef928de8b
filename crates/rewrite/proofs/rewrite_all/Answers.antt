-- The run begins with no line. Assumes nothing.
use Rattle.turns.proofs.Turning.{begins}
use Rattle.rewrite.specs.Rewrite.{rewritten}
use Rattle.rewrite.specs.Program.{Run}
use Rattle.rewrite.proofs.Chunks.{fresh_run}
use Rattle.rewrite.proofs.rewrite_all.Goals as goal

pub returns : goal.returns
returns g c = (c.run.new.program, c.run.ensures (begins rewritten Run _ _ (fresh_run _ c.new.ensures)))

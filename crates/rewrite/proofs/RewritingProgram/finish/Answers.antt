-- The last line is rewritten. Assumes nothing.
use Rattle.turns.proofs.Turning.{finishes}
use Rattle.rewrite.specs.Rewrite.{rewritten}
use Rattle.rewrite.specs.Program.{Run}
use Rattle.rewrite.proofs.Chunks.{all_rewritten}
use Rattle.rewrite.proofs.RewritingProgram.finish.Goals as goal

pub returns : goal.returns
returns g c =
    finishes rewritten Run c.args.self.now _ _ c.rewrite_last.new.self.texts.items c.write_all.result (rw (c.as_slice.ensures.value) at c.write_all.ensures.bytes)
    (λ input w x. all_rewritten input w c.args.self.now x c.rewrite_last.new.self.texts.items c.rewrite_last.ensures)

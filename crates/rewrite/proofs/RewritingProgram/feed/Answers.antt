-- The chunk is rewritten. Assumes nothing.
use Rattle.turns.proofs.Turning.{feeds, turned_down}
use Rattle.rewrite.specs.Rewrite.{rewritten}
use Rattle.rewrite.specs.Program.{Run}
use Rattle.rewrite.proofs.Chunks.{fed_on}
use Rattle.rewrite.proofs.RewritingProgram.feed.Goals as goal

pub returns-then-chunk-gt-CHUNK : goal.returns-then-chunk-gt-CHUNK
returns-then-chunk-gt-CHUNK g c = turned_down rewritten Run c.args.self.now _ c.args.chunk.now

pub returns : goal.returns
returns g c =
    feeds rewritten Run c.args.self.now _ _ c.rewrite.new.self.texts.items _ c.args.chunk.now c.write_all.result (rw (c.as_slice.ensures.value) at c.write_all.ensures.bytes)
    (λ input w x. fed_on input w c.args.self.now x c.rewrite.new.self.texts.items _ c.args.chunk.now c.rewrite.ensures)

-- The bytes so far are answered. Assumes nothing.
use Rattle.rewrite.proofs.Telling.{At}
use Rattle.rewrite.proofs.Rewriting.rewrite.Given as goal

abbrev pub invariant-loop-byte : goal.invariant-loop-byte
invariant-loop-byte l = At l.fn.self.line.items l.chunk l.self.texts.items l.self.line.items l.byte-index

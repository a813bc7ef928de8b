-- The line so far is the last, unless it is empty. Assumes nothing.
use Rattle.rewrite.proofs.Telling.{none_told, last_told}
use Rattle.rewrite.proofs.Rewriting.rewrite_last.Goals as goal

pub returns-then-not-is_empty : goal.returns-then-not-is_empty
returns-then-not-is_empty c =
    rw (c.put_line.ensures, c.clear.ensures, c.as_slice.ensures.value) (last_told _ _ c.is_empty.ensures c.if-not-is_empty.true)

pub returns-else-not-is_empty : goal.returns-else-not-is_empty
returns-else-not-is_empty c = rw c.clear.ensures (none_told _ _ c.is_empty.ensures c.if-not-is_empty.false)

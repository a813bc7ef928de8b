-- A byte ends the line, is kept, or finds no room. Assumes nothing.
use Rattle.std.proofs.Common.{refl}
use Rattle.rewrite.proofs.Telling.{line_told, byte_told, byte_kept}
use Rattle.rewrite.proofs.Rewriting.rewrite.Goals as goal
use Rattle.rewrite.proofs.Rewriting.rewrite.Goals.{then-byte-eq10, else-byte-eq10}

pub loop-byte-preserved : goal.loop-byte-preserved
loop-byte-preserved c =
    let h = c.loop-byte.invariant in
    let m = c.loop-byte-test.true in
    elim c.if-byte-eq10.branch [
      | then-byte-eq10 w ↦ (rw (w.self-is, w.clear-then-byte-eq10.ensures, w.put_line.ensures, w.as_slice.ensures.value) (line_told _ _ _ _ _ h m _ refl w.if-byte-eq10.true))
      | else-byte-eq10 w ↦ (let p = w.try_push.ensures in rw w.self-is (byte_told _ _ _ _ _ h m _ refl _ (λ s. byte_kept w.try_push.result _ _ s _ w.if-byte-eq10.false p.ok p.err p.full)))
    ]

-- The line counts too many bytes or the room is too small, and the last line.
use Rattle.std.proofs.Common.{sym, ◌∙◌, ap}
use borrow.Author.Tests.{eq-eqb}
use Rattle.call_line.specs.Line.{line_of}
use Rattle.call_list.specs.Answer.{machine_of, after_of}
use Rattle.call_list.specs.Feed.{bytes_of}
use mathlib.Core.Bool.{true≢false}
use Rattle.call_list.proofs.Feeding.{no_line_closed, no_close, line_closed}
use Rattle.call_list.proofs.State.finish.Goals as goal
use Rattle.call_list.proofs.State.finish.Goals.{then-self-gt-KEPT-via-then-self-gt-KEPT, then-self-gt-KEPT-via-else-self-gt-KEPT+then-out-lt-ROW}

pub returns-then-self-gt-KEPT-clause-left : goal.returns-then-self-gt-KEPT-clause-left
returns-then-self-gt-KEPT-clause-left c =
    elim c.then-self-gt-KEPT.branch [
      | then-self-gt-KEPT-via-then-self-gt-KEPT w ↦ (no_line_closed _ _ w.if-self-gt-KEPT.true)
      | then-self-gt-KEPT-via-else-self-gt-KEPT+then-out-lt-ROW w ↦ (no_close _ _ w.if-out-lt-ROW.true)
    ]

pub returns-clause-left : goal.returns-clause-left
returns-clause-left c =
    line_closed _ _ _ _ _ _ c.if-self-gt-KEPT.false c.if-out-lt-ROW.false
    (λ z. true≢false (sym (eq-eqb _ _ z) ∙ sym c.is_empty.ensures ∙ c.if-is_empty.false))
    (c.take_line-outcome.ensures ∙ ap (λ l. after_of (machine_of c.args.self.now.machine) (line_of l)) c.as_slice.ensures)
    (ap bytes_of c.clear.ensures) (ap (λ l. l.len) c.clear.ensures) (c.new.ensures ∙ c.read.ensures) c.put_row.ensures

-- A line that stands whole in the chunk and is taken, one that is read on, and none.
use Rattle.std.proofs.Common.{sym, ap, ◌∙◌}
use borrow.Author.Tests.{eqb-true}
use Rattle.call_line.specs.Line.{line_of}
use Rattle.call_list.specs.Answer.{machine_of, after_of}
use Rattle.call_list.specs.Feed.{bytes_of, state_of}
use Rattle.call_list.proofs.Feeding.{whole_told, line_told, none_told}
use Rattle.call_list.proofs.State.next_line.Goals as goal

pub returns-clause-answers : goal.returns-clause-answers
returns-clause-answers c =
    whole_told _ _ _ _ _ _ _ (eqb-true _ _ (sym c.is_empty.ensures ∙ c.if-is_empty.true)) (sym c.whole_call.ensures ∙ c.in-Some.is)
    c.call_shown.ensures.0 c.call_shown.ensures.1

pub returns-in_err-end-clause-answers : goal.returns-in_err-end-clause-answers
returns-in_err-end-clause-answers c =
    let e = c.read_on.ensures in
    rw c.from_residual.ensures (none_told (state_of c.args.self.now) _ _ e.short (sym e.ended ∙ c.in_err-end.was) e.kept)

pub returns-2-clause-answers : goal.returns-2-clause-answers
returns-2-clause-answers c =
    let e = c.read_on.ensures in
    line_told _ _ _ _ _ _ _ e.short (sym e.ended ∙ c.in_ok-end.was) e.kept
    (c.take_line-outcome.ensures ∙ ap (λ l. after_of (machine_of c.args.self.now.machine) (line_of l)) c.as_slice.ensures) (ap bytes_of c.clear.ensures)
    (c.renew.ensures ∙ c.read.ensures)

-- `line` meets its contract: the text has room for the line and no more. Assumes nothing.
use Rattle.std.proofs.Common.{◌≡◌, Err, sym, ◌∙◌, refl, rules}
use Rattle.call_line.proofs.Written.{line_refused, line_whole}
use Rattle.call_line.proofs.line.Goals as goal

pub returns-in_err-write_line : goal.returns-in_err-write_line
returns-in_err-write_line c =
    let e = c.in_err-write_line.field-0.0 in
    let r : c.from_residual.result ≡ Err e = search rules in
    r ∙ sym (line_refused c.args.call e (sym c.in_err-write_line.was ∙ c.write_line.ensures.value.0))

pub returns : goal.returns
returns c =
    rw c.write_line.ensures.value.1 (line_whole c.args.call _ (sym c.in_ok-write_line.was ∙ c.write_line.ensures.value.0) refl)

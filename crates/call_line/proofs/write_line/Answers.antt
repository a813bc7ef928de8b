-- `write_line` meets its contract: column by column, and then the newline. Assumes nothing.
use Rattle.std.proofs.lemmas.Slice.Zip.{zip_turn, zip_end}
use Rattle.std.proofs.Common.{◌≡◌, ℕ, ◌+◌, ◌≤◌, ◌<◌, Result, Err, List, [], ◌∷◌, ◌++◌, length, length-append, get_or, set, refl, sym, ap, ◌∙◌, subst, arith, rules}
use Rattle.refusal.specs.declared.Refusal.{Refusal}
use Rattle.call_line.specs.Column.{start, total}
use Rattle.call_line.specs.Line.{wide, values_of, fields, checked}
use Rattle.call_line.specs.Write.{ascii_newline, line_text, line_bytes, reread, OfType}
use Rattle.call_line.specs.declared.Call.{Call}
use Rattle.call_line.specs.declared.Fields.{Fields}
use Rattle.call_line.proofs.Columns.{start_next}
use Rattle.call_line.proofs.Calls.{four_long}
use Rattle.call_line.proofs.Written.{FirstColumns, no_column, columns_kept, column_more, newline_laid, of_type, turned_down, no_room, accepted}
use Rattle.call_line.proofs.write_line.Goals as goal

-- what the reader says of the call's values
says : (call : Call) (ns : List ℕ) (f : Fields) (r : Result Call Refusal) → ns ≡ values_of call → f ≡ fields ns → r ≡ checked f → reread call ≡ r
unfolding reread
says call ns f r e d q = sym (rw (q, d, e))

pub returns-in_err-checked : goal.returns-in_err-checked
returns-in_err-checked c =
    let e = c.in_err-checked.field-0.0 in
    let r : c.from_residual.result ≡ Err e = search rules in
    let w =
    turned_down _ c.args.out.now e
    (says c.args.call _ c.from.result _ c.from-values.ensures c.from.ensures c.in_err-checked.ensures) in
    rw r (record { value = w.0; read_back = w.1 })

pub returns-then-out-le-LINE_WIDTH : goal.returns-then-out-le-LINE_WIDTH
returns-then-out-le-LINE_WIDTH c =
    let w =
    no_room _ _ c.args.out.now
    (says c.args.call _ c.from.result _ c.from-values.ensures c.from.ensures c.in_ok-checked.ensures) (omega arith) in
    record { value = w.0; read_back = w.1 }

pub loop-width-init : goal.loop-width-init
loop-width-init c = (refl, refl, no_column _ (values_of c.args.call))

pub loop-width-preserved : goal.loop-width-preserved
loop-width-preserved c =
    let l = c.loop-width in
    let i = l.invariant in
    let p = c.in-Some in
    let out₀ = c.args.out.now in
    let ns = values_of c.args.call in
    let k = length l.yielded in
    let t = zip_turn wide ns l.yielded c.into_iter-width-iterator.result l.width-iterator c.next.new.self c.next.result (search rules) (search (rules, c.from-values.ensures)) l.yielded_by (p.width, p.value) p.is c.next.ensures.steps in
    let h : k < 4 = t.0 in
    let r : line_bytes ≤ length out₀ = omega arith in
    let f = sym (four_long c.args.call) in
    let m = column_more out₀ ns l.out f r k l.from p.width.now p.value.now _ h (t.2 0) (t.3 0) i.0 i.1 c.write_number.ensures i.2 in
    let e : length (l.yielded ++ ((p.width, p.value) ∷ [])) ≡ k + 1 = length-append l.yielded ((p.width, p.value) ∷ []) in
    rw e (
      rw (t.2 0) (ap (λ (x : ℕ). x + get_or wide k 0) i.0 ∙ sym (start_next wide k h)),
      columns_kept out₀ ns _ f r (k + 1) (omega arith) m,
      m,
    )

pub returns : goal.returns
unfolding line_text
returns c =
    let l = c.loop-width in
    let out₀ = c.args.out.now in
    let v = c.from-values in
    let ns = values_of c.args.call in
    let four = four_long c.args.call in
    let r : line_bytes ≤ length out₀ = omega arith in
    let n = zip_end wide ns l.yielded c.into_iter-width-iterator.result l.width-iterator c.next.new.self c.next.result (search rules) (search (rules, v.ensures)) l.yielded_by c.in-None.is c.next.ensures.steps in
    let k : length l.yielded ≡ 4 = n ∙ rw four in
    let f : l.from ≡ total wide = l.invariant.0 ∙ ap (start wide) k in
    let all = subst (FirstColumns out₀ ns l.out) k l.invariant.2 in
    let t : OfType c.args.call = of_type _ v.result _ _ v.ensures v.type_inv in
    let w =
    accepted _ _ out₀ _ t
    (says c.args.call v.result c.from.result _ v.ensures c.from.ensures c.in_ok-checked.ensures) r
    (ap (λ (n : ℕ). set l.out n ascii_newline) f ∙ newline_laid out₀ ns l.out (sym four) r all) in
    record { value = w.0; read_back = w.1 }

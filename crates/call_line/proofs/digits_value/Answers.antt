-- `digits_value` meets its contract: the number so far, and the digits ahead, are all. Assumes nothing.
use Rattle.std.proofs.Common.{get_or, sym, ◌∙◌, arith}
use Rattle.call_line.proofs.Reading.{digits_fit, on_ahead, end_ahead}
use Rattle.call_line.proofs.digits_value.Goals as goal

pub overflow_mul-value : goal.overflow_mul-value
overflow_mul-value c =
    let l = c.loop-byte in
    let b = get_or c.split_at.result.0.now l.byte-index 0 in
    omega (arith, digits_fit l.byte-index l.value b (omega arith) l.invariant.0 (sym c.is_digit.ensures ∙ c.if-not-is_digit.false))

pub overflow_add-value : goal.overflow_add-value
overflow_add-value c =
    let l = c.loop-byte in
    let b = get_or c.split_at.result.0.now l.byte-index 0 in
    omega (arith, digits_fit l.byte-index l.value b (omega arith) l.invariant.0 (sym c.is_digit.ensures ∙ c.if-not-is_digit.false))

pub loop-byte-preserved : goal.loop-byte-preserved
loop-byte-preserved c =
    let l = c.loop-byte in
    let s = c.split_at.result in
    let d = sym c.is_digit.ensures ∙ c.if-not-is_digit.false in
    let f = digits_fit l.byte-index l.value (get_or s.0.now l.byte-index 0) (omega arith) l.invariant.0 d in
    rw c.from.ensures
    (f.0, l.invariant.1 ∙ on_ahead s.0.now s.1.now l.byte-index l.value (omega arith) d f.1)

pub loop-byte-2-init : goal.loop-byte-2-init
loop-byte-2-init c =
    let l = c.loop-byte in
    l.invariant.1 ∙ end_ahead c.split_at.result.0.now c.split_at.result.1.now l.byte-index l.value (omega arith)

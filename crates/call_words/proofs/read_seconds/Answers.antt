-- `read_seconds` meets its contract. Assumes nothing.
use Rattle.std.proofs.Common.{sym, arith, rules}
use Rattle.call_words.specs.Words.{plus, times, is_point}
use Rattle.call_words.proofs.Numbers.{seconds_parts, at_most_lem, fraction_fits}
use Rattle.call_words.proofs.read_seconds.Goals as goal

pub returns-in_err-seconds : goal.returns-in_err-seconds
unfolding plus times is_point
returns-in_err-seconds c =
    let p = c.cut.ensures is_point (λ b r h. search rules) in
    let a = c.in_err-seconds.ensures in
    rw (c.from_residual.ensures, seconds_parts _ _ _ p.0 p.1, ← c.read_number.ensures, ← a)

pub returns-in_err-nanos : goal.returns-in_err-nanos
unfolding plus times is_point
returns-in_err-nanos c =
    let p = c.cut.ensures is_point (λ b r h. search rules) in
    let a = c.in_ok-seconds.ensures in
    let b = c.in_err-nanos.ensures in
    rw (c.from_residual-in_err-nanos.ensures, seconds_parts _ _ _ p.0 p.1, ← c.read_number.ensures, ← a, ← b)

pub overflow_mul-result : goal.overflow_mul-result
overflow_mul-result c = omega (arith, at_most_lem 4000000000 _ _ (sym c.in_ok-seconds.ensures))

pub overflow_add-result : goal.overflow_add-result
overflow_add-result c =
    omega (arith, at_most_lem 4000000000 _ _ (sym c.in_ok-seconds.ensures), fraction_fits _ _ (sym c.in_ok-nanos.ensures))

pub returns : goal.returns
unfolding plus times is_point
returns c =
    let p = c.cut.ensures is_point (λ b r h. search rules) in
    let a = c.in_ok-seconds.ensures in
    let b = c.in_ok-nanos.ensures in
    rw (seconds_parts _ _ _ p.0 p.1, ← c.read_number.ensures, ← a, ← b)

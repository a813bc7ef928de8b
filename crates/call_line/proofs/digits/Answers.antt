-- `digits` meets its contract: the digits so far, what is left of the number, and that the table holds the powers. Assumes nothing.
use Rattle.std.proofs.Common.{refl, sym, length-set, add-one, arith}
use native.Mathlib.Nat.{mod-eq_of_lt}
use Rattle.call_line.proofs.Writing.{power_at, parted_at, digit_laid, all_digits}
use Rattle.call_line.proofs.digits.Goals as goal

-- the last part is the test of the whole table, which antt computes
pub loop-k-init : goal.loop-k-init
loop-k-init c = (sym (mod-eq_of_lt (omega arith)), refl, refl, refl)

pub loop-k-preserved : goal.loop-k-preserved
loop-k-preserved c =
    let l = c.loop-k in
    let n = c.args.n in
    let p = power_at l.invariant.3 l.k (omega arith) in
    let q = parted_at n l.k l.rest (omega arith) l.invariant.0 in
    let d = digit_laid n l.k c.digit-taken.result.value l.digits (omega arith) l.invariant.1 (cc) l.invariant.2 in
    (rw add-one (cc), simp length-set l.invariant.1, d, l.invariant.3)

pub returns : goal.returns
returns c = all_digits c.args.n c.loop-k.k c.loop-k.digits (omega arith) c.loop-k.invariant.1 c.loop-k.invariant.2

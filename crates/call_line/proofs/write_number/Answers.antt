-- `write_number` meets its contract: spaces, and then as many of the digits as have room. Assumes nothing.
use Rattle.std.proofs.Common.{◌≡◌, ◌-◌, length, length-drop, drop, replicate, take_all, sym, ap, ◌∙◌, rules, arith}
use Rattle.call_line.specs.Column.{ascii_space}
use Rattle.call_line.proofs.Writing.{length_digits, filled}
use Rattle.call_line.proofs.write_number.Goals as goal

pub returns : goal.returns
returns c =
    let n = c.args.n in
    let l = length c.args.out.now in
    let ds = c.digits-digits.result in
    let z = c.leading_zeros-count in
    let s = c.saturating_sub.result in
    let m = length c.split_at_mut-spaces.result.1.now in
    let w : length ds ≡ 20 = ap length c.digits-digits.ensures ∙ length_digits 20 n in
    let e : l - s ≡ m = omega arith in
    let a : c.fill.new.self ≡ replicate s ascii_space = search rules in
    let b : c.copy_from_slice.new.self ≡ drop (20 - m) ds =
    c.copy_from_slice.ensures.after ∙ take_all _ (drop (20 - m) ds) (omega (arith, length-drop (20 - m) ds)) in
    rw (a, b, ← e)
    (sym (filled n z.result l s ds (omega arith) (omega arith) c.digits-digits.ensures (omega arith) z.ensures.zeros (λ h. z.ensures.digit (omega arith)) c.saturating_sub.ensures))

use Rattle.std.proofs.Common.{◌≡◌, length, take, refl, ap, ◌∙◌}
use lib.Seq.{length-take-le}
use native.Mathlib.Omega.{arith}
use Rattle.call_line.proofs.RoundTrip.{length_column}
use Rattle.call_list.specs.Answer.{text_of, row_of}
use Rattle.call_list.proofs.Laying.{behind_column}
use Rattle.call_list.proofs.Shown.put_row.Goals as goal

pub returns : goal.returns
unfolding row_of
returns c =
    let k : length (take 2 c.args.out.now) ≡ 2 = length-take-le 2 c.args.out.now (omega (arith, c.requires)) in
    let l : length c.write_number.new.out ≡ 2 = ap length c.write_number.ensures ∙ length_column _ _ ∙ k in
    let t : c.copy_from_slice.new.self ≡ text_of c.args.self.now =
    c.copy_from_slice.ensures.after ∙ c.self.invariant ∙ ap text_of c.self.view_is in
    behind_column _ _ _ l ∙ rw (t, c.write_number.ensures, k, c.number.ensures) refl

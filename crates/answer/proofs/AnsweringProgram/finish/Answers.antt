-- The last line is answered. Assumes nothing.
use Rattle.std.proofs.Common.{rules, arith, ◌≡◌, length}
use Rattle.call_list.specs.Whole.{answers}
use Rattle.turns.proofs.Turning.{finishes}
use Rattle.answer.specs.Turn.{Run}
use Rattle.answer.proofs.Turns.{closed_fits, all_answered}
use Rattle.answer.proofs.AnsweringProgram.finish.Goals as goal

pub shared_ref_as_front-answers : goal.shared_ref_as_front-answers
shared_ref_as_front-answers g c =
    let room : length c.args.self.now.room ≡ 770048 = let y = c.well_formed in search rules in
    let long : length c.finish.new.out ≡ length c.args.self.now.room = c.finish.auto.out in
    let within = closed_fits _ _ c.unwrap_or-written.ensures _ _ _ _ c.finish.ensures.left in
    omega (arith, room, long, within)

pub returns : goal.returns
returns g c =
    let room : length c.args.self.now.room ≡ 770048 = let y = c.well_formed in search rules in
    finishes answers Run c.args.self.now _ _ _ c.write_all.result c.write_all.ensures.bytes
    (λ input w x. all_answered c.args.self.now room input w x c.finish.result c.unwrap_or-written.result c.unwrap_or-written.ensures c.finish.new.self c.finish.new.out c.finish.ensures.left)

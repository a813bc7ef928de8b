-- The chunk is fed. Assumes nothing.
use Rattle.std.proofs.Common.{rules, arith, ◌≡◌, length}
use Rattle.call_list.specs.Whole.{answers}
use Rattle.turns.proofs.Turning.{feeds, turned_down}
use Rattle.answer.specs.Turn.{Run}
use Rattle.answer.proofs.Turns.{fed_fits, fed_on}
use Rattle.answer.proofs.AnsweringProgram.feed.Goals as goal

pub shared_ref_as_front-answers : goal.shared_ref_as_front-answers
shared_ref_as_front-answers g c =
    let room : length c.args.self.now.room ≡ 770048 = let y = c.well_formed in search rules in
    let long : length c.feed.new.out ≡ length c.args.self.now.room = c.feed.auto.out in
    let within = fed_fits _ _ c.unwrap_or-written.ensures _ _ _ _ _ c.feed.ensures.left in
    omega (arith, room, long, within)

pub returns-then-chunk-gt-CHUNK : goal.returns-then-chunk-gt-CHUNK
returns-then-chunk-gt-CHUNK g c = turned_down answers Run c.args.self.now _ c.args.chunk.now

pub returns : goal.returns
returns g c =
    let room : length c.args.self.now.room ≡ 770048 = let y = c.well_formed in search rules in
    feeds answers Run c.args.self.now _ _ _ _ c.args.chunk.now c.write_all.result c.write_all.ensures.bytes
    (λ input w x. fed_on c.args.self.now room input w x c.feed.result c.unwrap_or-written.result c.unwrap_or-written.ensures c.feed.new.self c.feed.new.out c.args.chunk.now c.if-chunk-gt-CHUNK.false c.feed.ensures.left)

-- A turn answers the next line that ends in the chunk.
use Rattle.std.proofs.Common.{◌≡◌, ℕ, ◌+◌, ◌-◌, List, length, take, drop, arith, length-drop}
use lib.Seq.{take_all, drop-drop}
use Rattle.call_list.proofs.Feeding.{row_put, all_told}
use Rattle.call_list.proofs.State.feed_all.Goals as goal

all_left : (s : List ℕ) (i : ℕ) → take (length s - i) (drop i s) ≡ drop i s
all_left s i = take_all _ _ (omega (arith, length-drop i s))

pub loop-outcome-preserved : goal.loop-outcome-preserved
loop-outcome-preserved c =
    let l = c.loop-outcome in
    let chunk = c.args.chunk.now in
    let z = all_left chunk l.i in
    let t = rw z at c.in-Some.ensures.answers in
    let x = row_put _ _ _ _ _ _ _ l.invariant.answered _ _ _ _ t (l.w + 47 - l.w) _ (omega arith) c.put_row.ensures in
    record {
      read = omega (arith, t.within, length-drop l.i chunk, l.invariant.read);
      counted = c.next_line.ensures.counted;
      answered = rw (drop-drop c.in-Some.end l.i chunk) at x;
    }

pub returns : goal.returns
returns c =
    let l = c.loop-outcome in
    let z = all_left c.args.chunk.now l.i in
    all_told _ _ _ _ _ _ _ l.invariant.answered _ c.next_line.ensures.counted (rw z at c.in_default.ensures.answers)

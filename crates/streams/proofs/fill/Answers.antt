-- What a read puts behind the bytes that stand in the line.
use Rattle.std.proofs.Common.{◌≡◌, ℕ, ◌+◌, ◌-◌, ◌≤◌, List, ◌++◌, rules, length, take, sym, ap, ◌∙◌, subst, length-take-le}
use Rattle.std.proofs.Math.Seq.{take-append-add}
use Rattle.std.proofs.lemmas.List.{take-append-le}
use Rattle.std.specs.Io.KnownBytes.{Consumes}
use Rattle.std.proofs.KnownBytes.{Consumes-trans}
use borrow.Rule.Slice.PartMut.{put_mid, post_of}
use Rattle.streams.proofs.fill.Goals as goal

-- xs, once it has ys from a on
take-put : (a k n : ℕ) (xs ys : List ℕ) → a ≤ length xs → n ≤ length ys → take (a + n) (put_mid a k xs ys) ≡ take a xs ++ take n ys
take-put a k n xs ys within fits =
    let rest = ys ++ post_of a k xs in
    ap (λ m. take (m + n) (take a xs ++ rest)) (sym (length-take-le a xs within)) ∙ take-append-add (take a xs) rest n ∙ ap (λ l. take a xs ++ l) (take-append-le n ys _ fits)

pub loop-filled-preserved : goal.loop-filled-preserved
loop-filled-preserved g c =
    let i = c.loop-filled.invariant in
    let room = length c.loop-filled.line - c.loop-filled.filled in
    let filled = take-put c.loop-filled.filled room c.in_ok-n.n c.loop-filled.line c.read_chunk.new.chunk i.within c.in_ok-n.ensures.bytes.0 in
    record {
      same = search rules;
      within = search rules;
      read = subst (Consumes _ _) (sym filled) (Consumes-trans _ _ _ _ _ i.read c.in_ok-n.ensures.bytes.1);
    }

-- An answer's columns laid one after another, and how long they are. Assumes nothing.
use Prim.Native.Nat.{ℕ, ◌-◌, ◌≤◌}
use mathlib.Core.Path.{◌≡◌, refl, ◌∙◌}
use mathlib.Core.List.{List, [], ◌∷◌, ◌++◌, append_assoc, append-nil}
use native.Mathlib.Omega.{arith}
use lib.ListN.{length, take, drop, length-append, drop_of_length-le}
use lib.Seq.{take_at, drop_at}
use Rattle.buffer.specs.Laid.{laid}
use Rattle.buffer.proofs.Laying.{laid_next, length_next}
use Rattle.call_line.specs.Column.{column}
use Rattle.call_line.proofs.RoundTrip.{length_column}
use Rattle.std.proofs.Common.{Result}
use Rattle.refusal.specs.declared.Refusal.{Refusal}
use Rattle.call_list.specs.declared.Reading.{Reading}
use Rattle.call_list.specs.Answer.{text_width, text_of, row_of}
use Rattle.call_list.specs.Feed.{row_width}

-- four columns, before the newline that is there
pub four_laid :
    (o o1 o2 o3 o4 : List ℕ) (a b c d : ℕ) → drop 44 o ≡ 10 ∷ [] → o1 ≡ laid 0 (column 2 a) o → o2 ≡ laid 2 (column 2 b) o1
    → o3 ≡ laid 4 (column 20 c) o2 → o4 ≡ laid 24 (column 20 d) o3
    → o4 ≡ column 2 a ++ (column 2 b ++ (column 20 c ++ (column 20 d ++ (10 ∷ []))))
four_laid o o1 o2 o3 o4 a b c d z q1 q2 q3 q4 =
    let e1 = q1 ∙ laid_next o o [] (column 2 a) 0 2 refl refl (length_column 2 a) in
    let l1 = length_column 2 a in
    let e2 = q2 ∙ laid_next o o1 (column 2 a) (column 2 b) 2 2 l1 e1 (length_column 2 b) in
    let l2 = length_next o o1 (column 2 a) (column 2 b) 2 2 l1 e1 (length_column 2 b) in
    let e3 = q3 ∙ laid_next o o2 (column 2 a ++ column 2 b) (column 20 c) 4 20 l2 e2 (length_column 20 c) in
    let l3 = length_next o o2 (column 2 a ++ column 2 b) (column 20 c) 4 20 l2 e2 (length_column 20 c) in
    let e4 = q4 ∙ laid_next o o3 ((column 2 a ++ column 2 b) ++ column 20 c) (column 20 d) 24 20 l3 e3 (length_column 20 d) in
    e4 ∙ rw z (simp append_assoc)

pub length_text : (r : Reading) → length (text_of r) ≡ text_width
unfolding text_of
length_text r = simp (length-append, length_column)

pub length_row : (outcome : Result (Unit {0}) Refusal) (r : Reading) → length (row_of outcome r) ≡ row_width
unfolding row_of
length_row outcome r = simp (length-append, length_column, length_text)

-- a column of two bytes, and what stands behind it in place of the rest
pub behind_column : (o col t : List ℕ) → length col ≡ 2 → take 2 (col ++ o) ++ (t ++ drop (length (col ++ o) - 2) (drop 2 (col ++ o))) ≡ col ++ t
behind_column o col t l =
    let k : length o ≤ length (col ++ o) - 2 = omega (arith, length-append col o, l) in
    rw (take_at col o 2 l, drop_at col o 2 l, drop_of_length-le o k, append-nil)

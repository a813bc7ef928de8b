-- What other crates need to know of lines: a line that is taken has no newline in it, and one of neither width is not in shape. Assumes nothing.
use Prim.Native.Nat.{ℕ, zero, suc, ◌+◌, ◌-◌, ◌≤◌, ◌<◌}
use mathlib.Core.Path.{◌≡◌, refl, sym, ap, ◌∙◌}
use mathlib.Core.Bool.{Bool, true, false, cond}
use mathlib.Core.List.{List, [], ◌∷◌}
use native.Mathlib.Decide.{dec_lt}
use native.Mathlib.Omega.{arith}
use borrow.Author.Tests.{eqb-true}
use lib.Dec.{eqb}
use lib.ListN.{length, get_or, drop, length-take, length-drop}
use lib.Seq.{get_or-take, get_or-drop}
use Rattle.call_line.specs.declared.Call.{Call}
use Rattle.refusal.specs.declared.Refusal.TheVariants.{NotInShape}
use Rattle.call_line.specs.declared.LineRefusal.TheVariants.{Other}
use Rattle.std.proofs.Common.{None, Ok, Err}
use Rattle.call_line.specs.Column.{is_digit, digits_of, leading_spaces, column_of, start, total, cut}
use Rattle.call_line.specs.Line.{wide, narrow, fields_in, fields_of, said, line_of}
use Rattle.call_line.proofs.Reading.{no_digit}
use Rattle.call_line.proofs.Columns.{Four, wrong_column, Shape, wide_shape, narrow_shape, other_width, Told, is_wide, is_narrow, other, told_by_length}

-- no byte of s is a newline
abbrev pub Clear : List ℕ → Type 0
Clear s = (j : ℕ) → j < length s → get_or s j 0 ≡ 10 → ⊥

not_digit : (b : ℕ) → b ≡ 10 → is_digit b ≡ false
unfolding is_digit
not_digit b e = rw e

-- a column with one in it
column_wrong : (s : List ℕ) (j : ℕ) → j < length s → get_or s j 0 ≡ 10 → column_of s ≡ None
unfolding column_of leading_spaces
column_wrong [] j h e = absurd (omega arith)
column_wrong (b ∷ s) j h e = pick (column_wrong s) (eqb b 32) refl j h e
  where
    pick :
        ((k : ℕ) → k < length s → get_or s k 0 ≡ 10 → column_of s ≡ None) → (t : Bool) → eqb b 32 ≡ t
        → (k : ℕ) → k < suc (length s) → get_or (b ∷ s) k 0 ≡ 10
        → digits_of (drop (cond t (suc (leading_spaces s)) 0) (b ∷ s)) ≡ None
    pick ih true q zero l z = let p : b ≡ 32 = eqb-true b 32 q in absurd (omega arith)
    pick ih true q (suc k) l z = ih k (omega arith) z
    pick ih false q k l z = no_digit (b ∷ s) k l (not_digit (get_or (b ∷ s) k 0) z)

-- the column in which the place j is
data In (ws : List ℕ) (j : ℕ) : Type 0 where
  column : (k : ℕ) → k < length ws → start ws k ≤ j → j < start ws k + get_or ws k 0 → In ws j

find : (ws : List ℕ) (j : ℕ) → j < total ws → In ws j
find [] j h = absurd (omega arith)
find (w ∷ ws) j h = pick (find ws) (dec_lt j w)
  where
    next : (k : ℕ) → w ≤ j → In ws k → k ≡ j - w → In (w ∷ ws) j
    next k l (column c m a b) e = column (suc c) (omega arith) (omega arith) (omega arith)

    pick : ((k : ℕ) → k < total ws → In ws k) → Dec (j < w) → In (w ∷ ws) j
    pick ih (yes l) = column zero (omega arith) (omega arith) (omega arith)
    pick ih (no n) = next (j - w) (omega (arith, n)) (ih (j - w) (omega (arith, n))) refl

-- a line with one in it
unreadable : (ws : List ℕ) → Four ws → (s : List ℕ) → length s ≡ total ws → (j : ℕ) → j < length s → get_or s j 0 ≡ 10 → fields_in ws s ≡ None
unreadable ws w s l j h e = inside (find ws j (omega arith))
  where
    inside : In ws j → fields_in ws s ≡ None
    inside (column k m a b) =
        let p : j ≡ start ws k + (j - start ws k) = omega arith in
        let i : j - start ws k < get_or ws k 0 = omega arith in
        let z : get_or (cut ws k s) (j - start ws k) 0 ≡ 10 =
        get_or-take (get_or ws k 0) (drop (start ws k) s) (j - start ws k) 0 i
        ∙ get_or-drop (start ws k) s (j - start ws k) 0
        ∙ ap (λ (n : ℕ). get_or s n 0) (sym p)
        ∙ e in
        let y : j - start ws k < length (cut ws k s) = simp (length-take, length-drop) (omega arith) in
        wrong_column ws s k (omega (arith, w.long)) (column_wrong (cut ws k s) (j - start ws k) y z)

not_read : (s : List ℕ) (j : ℕ) → j < length s → get_or s j 0 ≡ 10 → fields_of s ≡ None
not_read s j h e = pick (told_by_length s)
  where
    in_shape : (ws : List ℕ) → Shape ws → length s ≡ total ws → fields_of s ≡ None
    in_shape ws w l = w.told s l ∙ unreadable ws w.columns s l j h e

    pick : Told s → fields_of s ≡ None
    pick (is_wide l) = in_shape wide wide_shape l
    pick (is_narrow l) = in_shape narrow narrow_shape l
    pick (other u) = u

pub taken_clear : (s : List ℕ) (call : Call) → line_of s ≡ Ok call → Clear s
unfolding line_of said
taken_clear s call e j h z = let q : said (fields_of s) ≡ Err (Other NotInShape) = ap said (not_read s j h z) in cc

pub other_length : (s : List ℕ) → (length s ≡ total wide → ⊥) → (length s ≡ total narrow → ⊥) → line_of s ≡ Err (Other NotInShape)
unfolding line_of said
other_length s w n = ap said (other_width s w n)

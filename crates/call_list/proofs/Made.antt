-- A list of written calls is read as these calls. Assumes nothing.
use Prim.Native.Nat.{ℕ, zero, suc}
use mathlib.Core.Path.{◌≡◌, refl, ◌∙◌}
use mathlib.Core.List.{List, [], ◌∷◌, ◌++◌, append_assoc, append-nil}
use native.Mathlib.Omega.{arith}
use borrow.Author.Tests.{ne_eqb}
use Rattle.call_line.specs.Column.{row}
use Rattle.call_line.specs.Line.{wide, values_of}
use Rattle.call_line.specs.Write.{line_text}
use Rattle.call_line.proofs.Clear.{Clear, taken_clear}
use Rattle.call_line.proofs.Written.{call_says}
use Rattle.call_list.specs.Whole.{last_line, lines_from, joined}
use Rattle.call_list.specs.Made.{list_text, ListRead}

-- bytes with no newline among them, and then one: a line
pub clear_line : (a l t : List ℕ) → Clear a → lines_from l (a ++ (10 ∷ t)) ≡ (l ++ a) ∷ lines_from [] t
unfolding lines_from
clear_line [] l t c = rw append-nil
clear_line (b ∷ a) l t c =
    let n : b ≡ 10 → ⊥ = λ e. c zero (omega arith) e in
    rw (ne_eqb b 10 n) (clear_line a (l ++ (b ∷ [])) t (λ j h e. c (suc j) (omega arith) e) ∙ rw append_assoc)

pub list_read : ListRead
unfolding lines_from last_line joined line_text
list_read [] w = refl
list_read (call ∷ calls) w =
    let s = call_says call w.0.0 w.0.1 in
    rw (append_assoc, clear_line (row wide (values_of call)) [] (list_text calls) (taken_clear _ call s), s, list_read calls w.1)

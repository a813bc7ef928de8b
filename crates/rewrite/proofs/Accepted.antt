-- A list that the reader accepts is written as the list of its calls, and comes back byte for byte where its lines are wide. Assumes nothing.
use Prim.Native.Nat.{ℕ, zero, suc}
use mathlib.Core.Path.{◌≡◌, refl, sym, ap, ◌∙◌}
use mathlib.Core.List.{List, [], ◌∷◌, ◌++◌, map, append_assoc, append-nil}
use mathlib.Core.Logic.{⊎_elim}
use native.Mathlib.Omega.{arith}
use borrow.Author.Tests.{ne_eqb}
use lib.ListN.{length}
use Rattle.call_line.specs.Column.{total}
use Rattle.call_line.specs.Line.{wide, line_of}
use Rattle.call_line.specs.Write.{line_text}
use Rattle.call_line.specs.declared.Call.{Call}
use Rattle.std.proofs.Common.{Ok}
use Rattle.call_line.proofs.Clear.{Clear, taken_clear}
use Rattle.call_line.proofs.Written.{taken_allowed, taken_of_type, wide_read, two_widths}
use Rattle.call_list.specs.Whole.{last_line, lines_from, lines_of, joined}
use Rattle.call_list.specs.Made.{Writable, list_text}
use Rattle.call_list.proofs.Made.{clear_line, list_read}
use Rattle.rewrite.specs.Rewrite.{rewritten_from, rewritten, closed, Say, none, one, AllWide}
use Rattle.rewrite.specs.Rewrite.{ListWritten, OpenWritten, SameCalls, ListComesBack, OpenComesBack}
use Rattle.rewrite.proofs.Telling.{none_last, last_text}

-- ---- lines that are taken

taken_some : (s : List ℕ) (call : Call) → line_of s ≡ Ok call → length s ≡ 0 → ⊥
taken_some s call e z = ⊎_elim (λ l. omega arith) (λ l. omega arith) (two_widths s call e)

-- bytes with no newline among them are a line so far
open_line : (a l : List ℕ) → Clear a → lines_from l a ≡ last_line (l ++ a)
unfolding lines_from
open_line [] l c = rw append-nil
open_line (b ∷ a) l c =
    rw (ne_eqb b 10 (c zero (omega arith)))
    (open_line a (l ++ (b ∷ [])) (λ j m e. c (suc j) (omega arith) e) ∙ rw (append_assoc l (b ∷ []) a))

next_text : (l : List ℕ) (call : Call) → line_of l ≡ Ok call → (t : List ℕ) → rewritten (closed l ++ t) ≡ line_text call ++ rewritten t
unfolding rewritten_from joined
next_text l call e t = rw (append_assoc l (10 ∷ []) t, clear_line l [] t (taken_clear l call e), e)

from_open : (l : List ℕ) → Clear l → rewritten l ≡ rewritten_from l []
unfolding rewritten_from lines_from
from_open l c = rw (open_line l [] c)

last_written : (l : List ℕ) (call : Call) → line_of l ≡ Ok call → rewritten l ≡ line_text call
last_written l call e = from_open l (taken_clear l call e) ∙ last_text l (taken_some l call e) ∙ rw e

-- they are written, whatever follows them
first_lines :
    (ls : List (List ℕ)) (calls : List Call) → Say ls calls → (t : List ℕ) → rewritten (joined (map closed ls) ++ t) ≡ list_text calls ++ rewritten t
unfolding joined
first_lines [] (call ∷ calls) x'' t = elim x'' [ ]
first_lines (l ∷ ls) [] x3 t = elim x3 [ ]
first_lines [] [] none t = refl
first_lines (l ∷ ls) (call ∷ calls) (one _ _ _ _ e h) t =
    let j = joined (map closed ls) in
    ap rewritten (append_assoc (closed l) j t)
    ∙ next_text l call e (j ++ t)
    ∙ ap (λ (u : List ℕ). line_text call ++ u) (first_lines ls calls h t)
    ∙ sym (append_assoc (line_text call) (list_text calls) (rewritten t))

pub list_written : ListWritten
list_written ls calls h =
    ap rewritten (sym (append-nil (joined (map closed ls)))) ∙ first_lines ls calls h [] ∙ rw none_last (append-nil (list_text calls))

pub open_written : OpenWritten
open_written ls calls l call h e = first_lines ls calls h l ∙ ap (λ (u : List ℕ). list_text calls ++ u) (last_written l call e)

-- ---- the list that is written

writable : (ls : List (List ℕ)) (calls : List Call) → Say ls calls → Writable calls
writable [] (call ∷ calls) x'' = elim x'' [ ]
writable (l ∷ ls) [] x3 = elim x3 [ ]
writable [] [] none = tt
writable (l ∷ ls) (call ∷ calls) (one _ _ _ _ e h) = ((taken_of_type l call e, taken_allowed l call e), writable ls calls h)

pub same_calls : SameCalls
same_calls ls calls h = ap (λ (s : List ℕ). map line_of (lines_of s)) (list_written ls calls h) ∙ list_read calls (writable ls calls h)

-- ---- wide lines

comes_back : (l : List ℕ) (call : Call) → length l ≡ total wide → line_of l ≡ Ok call → line_text call ≡ closed l
unfolding line_text
comes_back l call w e = ap closed (wide_read l call w e)

wide_list : (ls : List (List ℕ)) (calls : List Call) → Say ls calls → AllWide ls → list_text calls ≡ joined (map closed ls)
unfolding joined
wide_list [] (call ∷ calls) x4 w = elim x4 [ ]
wide_list (l ∷ ls) [] x4 w = elim x4 [ ]
wide_list [] [] none w = refl
wide_list (l ∷ ls) (call ∷ calls) (one _ _ _ _ e h) w = rw (comes_back l call w.0 e, wide_list ls calls h w.1)

-- a list of wide lines that are taken, each with its newline
pub list_comes_back : ListComesBack
list_comes_back ls calls h w = list_written ls calls h ∙ wide_list ls calls h w

-- and where the last lacks it, that is written too
pub open_comes_back : OpenComesBack
open_comes_back ls calls l call h e w v = open_written ls calls l call h e ∙ rw (wide_list ls calls h w, comes_back l call v e)

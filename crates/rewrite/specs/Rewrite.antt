-- A call list written anew: the text of each line, and what the program's functions leave. Definitions only.
use Rattle.std.specs.Prelude.{ℕ, ◌≡◌, Result, Ok, Err, List, [], ◌∷◌, ◌++◌, map, length}
use Rattle.refusal.specs.Refusal.{code}
use Rattle.refusal.specs.declared.Refusal.{Refusal}
use Rattle.call_line.specs.Column.{total}
use Rattle.call_line.specs.Line.{wide, line_of}
use Rattle.call_line.specs.Write.{ascii_newline, line_text}
use Rattle.call_line.specs.declared.Call.{Call}
use Rattle.call_line.specs.declared.LineRefusal.{LineRefusal}
use Rattle.call_line.specs.declared.LineRefusal.TheVariants.{Report, Other}
use Rattle.call_list.specs.Answer.{in_column}
use Rattle.call_list.specs.Whole.{joined, lines_from, lines_of}
use Rattle.call_list.specs.Made.{list_text}

-- ---- the text of a line

-- a refusal's number as an answer has it, in its first column, and the newline
unfoldable pub refusal_text : Refusal → List ℕ
refusal_text refusal = in_column 0 (code refusal) ++ (ascii_newline ∷ [])

-- what an accepted line says, written as the writer has it
abbrev pub answer_text : Result Call LineRefusal → List ℕ
answer_text (Ok call) = line_text call
answer_text (Err (Report refusal)) = refusal_text refusal
answer_text (Err (Other refusal)) = refusal_text refusal

-- of a line that comes without its newline
abbrev pub text_for : List ℕ → List ℕ
text_for l = answer_text (line_of l)

-- ---- the whole input

-- the texts of the lines of the input s, one after another, where l is the line so far
unfoldable pub rewritten_from : List ℕ → List ℕ → List ℕ
rewritten_from l s = joined (map text_for (lines_from l s))

-- what the program writes, whole
abbrev pub rewritten : List ℕ → List ℕ
rewritten input = rewritten_from [] input

-- ---- lists that are accepted

-- a line with its newline
abbrev pub closed : List ℕ → List ℕ
closed l = l ++ (ascii_newline ∷ [])

-- the reader takes every line, and they say these calls
pub data Say : List (List ℕ) → List Call → Type 0 where
  none : Say [] []
  one : (l : List ℕ) (ls : List (List ℕ)) (call : Call) (calls : List Call) → line_of l ≡ Ok call → Say ls calls → Say (l ∷ ls) (call ∷ calls)

-- whatever the widths of its lines, the list of their calls is written, an open last line with its newline
abbrev pub ListWritten : Type 0
ListWritten = (ls : List (List ℕ)) (calls : List Call) → Say ls calls → rewritten (joined (map closed ls)) ≡ list_text calls

abbrev pub OpenWritten : Type 0
OpenWritten =
    (ls : List (List ℕ)) (calls : List Call) (l : List ℕ) (call : Call) → Say ls calls → line_of l ≡ Ok call
    → rewritten (joined (map closed ls) ++ l) ≡ list_text calls ++ line_text call

-- it says the same calls
abbrev pub SameCalls : Type 0
SameCalls = (ls : List (List ℕ)) (calls : List Call) → Say ls calls → map line_of (lines_of (rewritten (joined (map closed ls)))) ≡ map Ok calls

-- "Writing a line back reproduces it only for the wide form" (Q-10): a list of wide lines comes back byte for byte
abbrev pub AllWide : List (List ℕ) → Type 0
AllWide [] = Unit {0}
AllWide (l ∷ ls) = (length l ≡ total wide) × AllWide ls

abbrev pub ListComesBack : Type 0
ListComesBack = (ls : List (List ℕ)) (calls : List Call) → Say ls calls → AllWide ls → rewritten (joined (map closed ls)) ≡ joined (map closed ls)

abbrev pub OpenComesBack : Type 0
OpenComesBack =
    (ls : List (List ℕ)) (calls : List Call) (l : List ℕ) (call : Call) → Say ls calls → line_of l ≡ Ok call → AllWide ls → length l ≡ total wide
    → rewritten (joined (map closed ls) ++ l) ≡ joined (map closed ls) ++ closed l

-- ---- what a chunk leaves

-- of the line so far and the chunk c: the text is to be written and line' is left, so that whatever follows the chunk is told after the text from line' on
abbrev pub Rewrites : List ℕ → List ℕ → List ℕ → List ℕ → Type 0
Rewrites line c text line' = (rest : List ℕ) → rewritten_from line (c ++ rest) ≡ text ++ rewritten_from line' rest

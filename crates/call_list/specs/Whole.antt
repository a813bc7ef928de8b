-- The whole input: its lines, and the answers to them. Definitions only.
use Rattle.std.specs.Prelude.{ℕ, ◌≡◌, if◌then◌else◌, Some, List, [], ◌∷◌, ◌++◌, eqb, take}
use Rattle.call_line.specs.Line.{line_of}
use Rattle.call_list.specs.Answer.{Machine, Answered, fresh_machine, after_of, reading_of, row_of}
use Rattle.call_list.specs.Feed.{Between, fresh, fed, closed}

-- "A last line may lack its newline; empty input prints nothing": what follows the last newline is a line unless it is empty
unfoldable pub last_line : List ℕ → List (List ℕ)
last_line [] = []
last_line (b ∷ l) = (b ∷ l) ∷ []

-- the lines of the input s, where l is the line so far
unfoldable pub lines_from : List ℕ → List ℕ → List (List ℕ)
lines_from l [] = last_line l
lines_from l (b ∷ s) = if eqb b 10 then (l ∷ lines_from [] s) else lines_from (l ++ (b ∷ [])) s

abbrev pub lines_of : List ℕ → List (List ℕ)
lines_of input = lines_from [] input

abbrev pub answered_line : Machine → List ℕ → Answered
answered_line m l = after_of m (line_of l)

-- "all but the refusal are read from the controller after the line, refused or not"
abbrev pub answer_row : Answered → List ℕ
answer_row a = row_of a.outcome (reading_of a.machine.controller)

-- the answers to lines, one after another
unfoldable pub answers_to : Machine → List (List ℕ) → List (List ℕ)
answers_to m [] = []
answers_to m (l ∷ ls) = answer_row (answered_line m l) ∷ answers_to (answered_line m l).machine ls

unfoldable pub joined : List (List ℕ) → List ℕ
joined [] = []
joined (c ∷ cs) = c ++ joined cs

-- what the program writes, whole
unfoldable pub answers : List ℕ → List ℕ
answers input = joined (answers_to fresh_machine (lines_of input))

-- ---- the program: chunks fed one after another, and a finish

-- from its start, fed the chunks by calls of `feed` that are taken, whatever their buffers hold, the program has written w; it is in the state p
pub data Reached : List (List ℕ) → List ℕ → Between → Type 0 where
  started : Reached [] [] fresh
  further :
      {chunks : List (List ℕ)} {w : List ℕ} {p : Between} (c out : List ℕ) (n : ℕ)
      → Reached chunks w p → (fed p c out).written ≡ Some n
      → Reached (chunks ++ (c ∷ [])) (w ++ take n (fed p c out).out) (fed p c out).state

-- and by a call of `finish` that is taken it has written all
pub data Program : List (List ℕ) → List ℕ → Type 0 where
  ended :
      {chunks : List (List ℕ)} {w : List ℕ} {p : Between} (out : List ℕ) (n : ℕ)
      → Reached chunks w p → (closed p out).written ≡ Some n
      → Program chunks (w ++ take n (closed p out).out)

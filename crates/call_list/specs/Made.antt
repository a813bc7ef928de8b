-- A call list that is made of calls (Q-1): each written as a line, one after another. Definitions only.
use Rattle.std.specs.Prelude.{ℕ, ◌≡◌, Ok, List, [], ◌∷◌, map}
use Rattle.call_line.specs.Line.{line_of}
use Rattle.call_line.specs.Write.{line_text, check, OfType}
use Rattle.call_line.specs.declared.Call.{Call}
use Rattle.call_list.specs.Whole.{lines_of, joined}

-- calls of the type that the reader does not turn down
abbrev pub Writable : List Call → Type 0
Writable [] = Unit {0}
Writable (call ∷ calls) = (OfType call × (check call ≡ Ok tt)) × Writable calls

abbrev pub list_text : List Call → List ℕ
list_text calls = joined (map line_text calls)

-- the lines of the list say these calls, in their order, and there are no others
abbrev pub ListRead : Type 0
ListRead = (calls : List Call) → Writable calls → map line_of (lines_of (list_text calls)) ≡ map Ok calls

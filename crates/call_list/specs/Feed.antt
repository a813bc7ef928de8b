-- The program byte by byte, and what its functions leave. Definitions only.
use Rattle.std.specs.Prelude.{ℕ, ◌+◌, ◌/◌, ◌≡◌, ◌&&◌, Bool, if◌then◌else◌, Option, Some, None, Result, List, [], ◌∷◌, ◌++◌, eqb, leb, length, take, drop}
use Rattle.call_line.specs.Column.{total}
use Rattle.call_line.specs.Line.{line_of, wide}
use Rattle.call_line.specs.declared.Call.{Call}
use Rattle.call_line.specs.declared.LineRefusal.{LineRefusal}
use Rattle.call_list.specs.declared.Line.{Line}
use Rattle.call_list.specs.declared.State.{State}
use Rattle.call_list.specs.Answer.{Machine, machine_of, answer_widths, fresh_machine, after_of, reading_of, row_of}

-- how many bytes of a line are kept: one more than the longest line in shape has
abbrev pub kept : ℕ
kept = total wide + 1

-- the bytes of an answer: its columns, and the newline
abbrev pub row_width : ℕ
row_width = total answer_widths + 1

-- the bytes of a line that are kept: the first of its places, or all where more are counted
abbrev pub bytes_of : Line → List ℕ
bytes_of l = take l.len l.bytes

-- a line that counts no more of them than it has
abbrev pub Counted : Line → Type 0
Counted l = length (bytes_of l) ≡ l.len

-- what there is between two chunks: the line so far, how many bytes of it are counted, and what was left by the lines before it
pub record Between : Type 0 where
  pub line : List ℕ
  pub counted : ℕ
  pub machine : Machine

abbrev pub state_of : State → Between
state_of p = record { line = bytes_of p.line; counted = p.line.len; machine = machine_of p.machine }

-- a run: the line so far, what is between two lines, and all that was written
pub record Run : Type 0 where
  pub line : List ℕ
  pub machine : Machine
  pub out : List ℕ

-- what is kept of a line's bytes; one that finds no room is not
abbrev pub kept_of : List ℕ → List ℕ
kept_of l = take kept l

abbrev pub pushed : List ℕ → ℕ → List ℕ
pushed line b = kept_of (line ++ (b ∷ []))

-- the line so far is l, and has ended
abbrev pub told : Run → Result Call LineRefusal → Run
told r l =
    let a = after_of r.machine l in
    record { line = []; machine = a.machine; out = r.out ++ row_of a.outcome (reading_of a.machine.controller) }

abbrev pub ended : Run → Run
ended r = told r (line_of r.line)

unfoldable pub step : Run → ℕ → Run
step r b = if eqb b 10 then ended r else record r { line = pushed r.line b }

unfoldable pub runs : Run → List ℕ → Run
runs r [] = r
runs r (b ∷ s) = runs (step r b) s

-- the end of the input: a line that lacks its newline counts
abbrev pub finished : Run → Run
finished r = if eqb (length r.line) 0 then r else ended r

-- ---- what the functions leave

-- `State::new`
abbrev pub fresh : Between
fresh = record { line = []; counted = 0; machine = fresh_machine }

-- a run from a state
abbrev pub start_of : Between → Run
start_of p = record { line = p.line; machine = p.machine; out = [] }

-- how much is written, none where nothing is taken; the state; and the buffer
pub record Left : Type 0 where
  pub written : Option ℕ
  pub state : Between
  pub out : List ℕ

abbrev pub left : Option ℕ → Between → List ℕ → Left
left written p out = record { written = written; state = p; out = out }

-- what a call leaves that leads to the run r
abbrev pub left_by : Run → List ℕ → Left
left_by r out =
    left (Some (length r.out)) (record { line = r.line; counted = length r.line; machine = r.machine }) (r.out ++ drop (length r.out) out)

-- whether `feed` and `finish` take what they are given: at most `kept` bytes of a line, and room for n answers
abbrev pub roomy : ℕ → ℕ → ℕ → Bool
roomy len n room = leb len kept && leb n (room / row_width)

-- `feed` takes the chunk s, or is where it was
unfoldable pub fed : Between → List ℕ → List ℕ → Left
fed p s out = if roomy p.counted (length s) (length out) then left_by (runs (start_of p) s) out else left None p out

unfoldable pub closed : Between → List ℕ → Left
closed p out = if roomy p.counted 1 (length out) then left_by (finished (start_of p)) out else left None p out

-- The pieces that `feed` is made of, `read_on` among them. Definitions only.
use Rattle.std.specs.Prelude.{ℕ, ◌+◌, Bool, if◌then◌else◌, ◌&&◌, Option, Some, None, option_map, Result, Ok, Err, List, ◌++◌, eqb, ltb, length, take, get_or}
use Rattle.std.specs.List.{position, before_first}
use Rattle.call_line.specs.Column.{total}
use Rattle.call_line.specs.Line.{wide, narrow, line_of}
use Rattle.call_line.specs.declared.Call.{Call}
use Rattle.call_line.specs.declared.LineRefusal.{LineRefusal}
use Rattle.call_list.specs.Feed.{kept_of}

-- ---- a line that ends in the bytes s

unfoldable pub is_newline : ℕ → Bool
is_newline b = eqb b 10

-- where the newline is, if they have one
abbrev pub newline : List ℕ → Option ℕ
newline s = position is_newline s

-- how many of them there are up to the newline and with it
unfoldable pub line_end : List ℕ → Option ℕ
line_end s = option_map (λ i. i + 1) (newline s)

-- the bytes of the line that are kept, up to the newline or all of them
unfoldable pub kept_on : List ℕ → List ℕ → List ℕ
kept_on line s = kept_of (line ++ before_first is_newline s)

-- ---- lines that stand whole in them

-- whether a newline stands behind w bytes
unfoldable pub newline_behind : ℕ → List ℕ → Bool
newline_behind w s = ltb w (length s) && eqb (get_or s w 0) 10

-- how wide a line may be that starts there: narrow where a newline stands behind so many bytes, else wide, where neither can be none
unfoldable pub standing : List ℕ → Option ℕ
standing s =
    if newline_behind (total narrow) s then Some (total narrow)
    else (if newline_behind (total wide) s then Some (total wide) else None)

-- what a line of that width says, if it is taken, and how many bytes it has with its newline
abbrev pub said : Result Call LineRefusal → ℕ → Option (Call × ℕ)
said (Ok call) width = Some (call, width + 1)
said (Err refusal) width = None

abbrev pub call_there : Option ℕ → List ℕ → Option (Call × ℕ)
call_there (Some width) s = said (line_of (take width s)) width
call_there None s = None

unfoldable pub whole_call : List ℕ → Option (Call × ℕ)
whole_call s = call_there (standing s) s

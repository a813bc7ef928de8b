-- A call list by words: the words of a line, what each may be, and the call that they make. Definitions only.
use Rattle.std.specs.Prelude.{◌≡◌, ℕ, ◌+◌, ◌-◌, ◌*◌, ◌^◌, Bool, true, false, if◌then◌else◌, not, ◌&&◌, ◌||◌, Option, Some, None, option_map, ok_or, Result, Ok, Err, List, [], ◌∷◌, length, pos, ◌==◌, nat_eq, nat_le, slice_index, to_bits}
use Prim.Native.Char.{code}
use Prim.Native.String.{String, [] as empty, ◌∷◌ as ◌then◌}
use Rattle.std.specs.Cmp.Lexicographic.{pointwise}
use Rattle.std.specs.Float.{binary64, inf}
use Rattle.std.specs.Float.Ieee.{of_int}
use Rattle.refusal.specs.Outcome.{and_then}
use Rattle.packets.specs.Summary.{largest_packet, latest_time}
use Rattle.call_line.specs.Column.{digits_of, more}
use Rattle.call_line.specs.declared.Call.{Call}
use Rattle.call_line.specs.declared.Call.TheVariants.{Estimate, Acknowledged, AlrOn, AlrOff, CapacityIs, CapacityNone, Packet, Report, Read, StartBytes, StartPackets}
use Rattle.call_words.specs.declared.Why.{Why}
use Rattle.call_words.specs.declared.Why.TheVariants.{UnknownCall, WordCount, Rate, Time, Size, Outcome, Measure}
use Rattle.call_words.specs.declared.Valued.{Valued}
use Rattle.call_words.specs.declared.Valued.TheVariants.{Estimate as Valued-as-Estimate, Acknowledged as Valued-as-Acknowledged}
use Rattle.call_words.specs.declared.Valued.TheVariants.{Alr as Valued-as-Alr, Capacity as Valued-as-Capacity, Report as Valued-as-Report, Start as Valued-as-Start}
use Rattle.call_words.specs.declared.Name.{Name}
use Rattle.call_words.specs.declared.Name.TheVariants.{WithValue, Packet as Name-as-Packet, Read as Name-as-Read}

-- ---- texts

-- a quoted text's bytes
abbrev pub ascii : String → List ℕ
ascii empty = []
ascii (c then s) = code c ∷ ascii s

-- byte by byte, and as long
abbrev pub same : List ℕ → List ℕ → Bool
same s t = pointwise nat_eq s t

-- the bytes before the first that is so
unfoldable pub up_to : (ℕ → Bool) → List ℕ → List ℕ
up_to so [] = []
up_to so (b ∷ s) = if so b then [] else (b ∷ up_to so s)

-- that byte, and all after it
unfoldable pub on_from : (ℕ → Bool) → List ℕ → List ℕ
on_from so [] = []
on_from so (b ∷ s) = if so b then (b ∷ s) else on_from so s

-- what answers for a byte is what so says of it
abbrev pub Answers : (ℕ → Bool → Type 0) → (ℕ → Bool) → Type 0
Answers answers so = (b : ℕ) (r : Bool) → answers b r → r ≡ so b

-- ---- words

-- a space, a tab or a CR
unfoldable pub is_blank : ℕ → Bool
is_blank b = b == 32 || (b == 9 || b == 13)

-- any other byte: one of a word
unfoldable pub is_other : ℕ → Bool
is_other b = not (is_blank b)

-- the words that start in a text, which begins inside an earlier word or not: one starts at each byte that is no blank and not inside a word, and
-- ends before the next blank
unfoldable pub words_from : Bool → List ℕ → List (List ℕ)
words_from inside [] = []
words_from inside (b ∷ s) =
    if is_blank b then words_from false s
    else (if inside then words_from true s else (up_to is_blank (b ∷ s) ∷ words_from true s))

-- the words of a line: "takes words and decimal rates (`estimate 2500000`, `packet 0.120 1200 lost`, `report 3000000`, `read`)"
abbrev pub words_in : List ℕ → List (List ℕ)
words_in line = words_from false line

-- what stands beside a text in a table, at the first that is the same
unfoldable pub look_up : {T : Type 0} → List (List ℕ × T) → List ℕ → Option T
look_up [] word = None
look_up (entry ∷ more) word = if same entry.0 word then Some entry.1 else look_up more word

-- ---- values

-- a whole number of at most this much
unfoldable pub at_most : ℕ → Option ℕ → Option ℕ
at_most most (Some n) = if nat_le n most then Some n else None
at_most most None = None

-- the 64 bits of the float nearest to a whole number; up to 2^53 it is that number
unfoldable pub bits_of : Option ℕ → Option ℕ
bits_of number = option_map (λ n. to_bits binary64 (of_int binary64 (pos n))) number

-- "Rates are whole bit/s up to 10^15 or `inf`"
unfoldable pub rate_of : List ℕ → Option ℕ
rate_of word =
    if same word (ascii "inf") then Some (to_bits binary64 (inf false)) else bits_of (at_most (10 ^ 15) (digits_of word))

-- bytes: 0 to 9999999
unfoldable pub size_of : List ℕ → Option ℕ
size_of word = at_most largest_packet (digits_of word)

-- "."
unfoldable pub is_point : ℕ → Bool
is_point b = b == 46

-- so many units
unfoldable pub times : ℕ → Option ℕ → Option ℕ
times unit number = option_map (λ n. n * unit) number

-- the ns of one in the last of so many places after the point
abbrev pub unit_of : ℕ → ℕ
unit_of places = 10 ^ (9 - places)

-- the ns of the digits after the point: one to nine, which may begin with zeros
unfoldable pub places_of : List ℕ → Option ℕ
places_of digits =
    if nat_le 1 (length digits) && nat_le (length digits) 9 then times (unit_of (length digits)) (more 0 digits) else None

-- a point and digits, or nothing
unfoldable pub fraction_of : List ℕ → Option ℕ
fraction_of [] = Some 0
fraction_of (point ∷ digits) = places_of digits

unfoldable pub plus : Option ℕ → Option ℕ → Option ℕ
plus (Some a) (Some b) = Some (a + b)
plus (Some a) None = None
plus None b = None

-- "times in seconds with up to nine places": a whole number, and perhaps a fraction; in ns
unfoldable pub nanos_of : List ℕ → Option ℕ
nanos_of word =
    plus (times (10 ^ 9) (digits_of (up_to is_point word))) (fraction_of (on_from is_point word))

-- a time: at most 4 × 10^18 ns
unfoldable pub time_of : List ℕ → Option ℕ
time_of word = at_most latest_time (nanos_of word)

-- ---- calls

unfoldable pub given : (ℕ → Call) → Why → Option ℕ → Result Call Why
given call why number = and_then (ok_or number why) (λ n. Ok (call n))

unfoldable pub alr_of : List ℕ → Result Call Why
alr_of word = if same word (ascii "off") then Ok AlrOff else given AlrOn Time (time_of word)

unfoldable pub capacity_of : List ℕ → Result Call Why
capacity_of word = if same word (ascii "none") then Ok CapacityNone else given CapacityIs Rate (rate_of word)

-- "B being 0 for bytes and 1 for packets" (Q-7)
unfoldable pub measures : List (List ℕ × Call)
measures = (ascii "bytes", StartBytes) ∷ (ascii "packets", StartPackets) ∷ []

unfoldable pub start_of : List ℕ → Result Call Why
start_of word = ok_or (look_up measures word) Measure

unfoldable pub with_value : Valued → List ℕ → Result Call Why
with_value Valued-as-Estimate word = given Estimate Rate (rate_of word)
with_value Valued-as-Acknowledged word = given Acknowledged Rate (rate_of word)
with_value Valued-as-Alr word = alr_of word
with_value Valued-as-Capacity word = capacity_of word
with_value Valued-as-Report word = given Report Rate (rate_of word)
with_value Valued-as-Start word = start_of word

unfoldable pub outcomes : List (List ℕ × ℕ)
outcomes = (ascii "lost", 1) ∷ (ascii "arrived", 0) ∷ []

unfoldable pub with_outcome : ℕ → ℕ → List ℕ → Result Call Why
with_outcome time size word =
    and_then (ok_or (look_up outcomes word) Outcome) (λ lost. Ok (Packet time lost size))

-- the first that is wrong, from left to right
unfoldable pub packet_of : List ℕ → List ℕ → List ℕ → Result Call Why
packet_of time size outcome =
    and_then (ok_or (time_of time) Time) (λ t. and_then (ok_or (size_of size) Size) (λ n. with_outcome t n outcome))

unfoldable pub names : List (List ℕ × Name)
names =
    (ascii "estimate", WithValue Valued-as-Estimate)
    ∷ (ascii "acknowledged", WithValue Valued-as-Acknowledged)
    ∷ (ascii "alr", WithValue Valued-as-Alr)
    ∷ (ascii "capacity", WithValue Valued-as-Capacity)
    ∷ (ascii "packet", Name-as-Packet)
    ∷ (ascii "report", WithValue Valued-as-Report)
    ∷ (ascii "read", Name-as-Read)
    ∷ (ascii "start", WithValue Valued-as-Start)
    ∷ []

abbrev pub name_of : List ℕ → Option Name
name_of word = look_up names word

-- a call by its name and the words after it
unfoldable pub call_of : Name → List (List ℕ) → Result Call Why
call_of (WithValue name) (value ∷ []) = with_value name value
call_of (WithValue name) [] = Err WordCount
call_of (WithValue name) (a ∷ b ∷ more) = Err WordCount
call_of Name-as-Packet (time ∷ size ∷ outcome ∷ []) = packet_of time size outcome
call_of Name-as-Packet [] = Err WordCount
call_of Name-as-Packet (a ∷ []) = Err WordCount
call_of Name-as-Packet (a ∷ b ∷ []) = Err WordCount
call_of Name-as-Packet (a ∷ b ∷ c ∷ d ∷ more) = Err WordCount
call_of Name-as-Read [] = Ok Read
call_of Name-as-Read (a ∷ more) = Err WordCount

-- "#"
unfoldable pub is_comment : List ℕ → Bool
is_comment word = slice_index word 0 == 35

-- nothing where a line has no words, or a comment
unfoldable pub said : List (List ℕ) → Result (Option Call) Why
said [] = Ok None
said (first ∷ words) =
    if is_comment first then Ok None
    else and_then (ok_or (name_of first) UnknownCall) (λ name. and_then (call_of name words) (λ call. Ok (Some call)))

-- what a line says
unfoldable pub words_of : List ℕ → Result (Option Call) Why
words_of line = said (words_in line)

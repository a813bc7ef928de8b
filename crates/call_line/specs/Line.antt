-- A line of a call list: its columns, the table of kinds, the refusals in their order. Definitions only.
use Rattle.std.specs.Prelude.{ℕ, Bool, true, false, ◌&&◌, ◌||◌, not, if◌then◌else◌, Option, Some, None, Result, Ok, Err, List, [], ◌∷◌, eqb, length, get_or}
use Rattle.refusal.specs.Refusal.{code}
use Rattle.refusal.specs.Outcome.{and_then}
use Rattle.refusal.specs.declared.Refusal.{Refusal}
use Rattle.refusal.specs.declared.Refusal.TheVariants.{NotInShape, Flag}
use Rattle.packets.specs.Summary.{check_time, check_packet}
use Rattle.loss_controller.specs.Setters.{rate_of, check_rate}
use Rattle.call_line.specs.declared.Fields.{Fields}
use Rattle.call_line.specs.declared.Call.{Call}
use Rattle.call_line.specs.declared.Call.TheVariants.{Estimate, Acknowledged, AlrOn, AlrOff, CapacityIs, CapacityNone, Packet, Report, Read, StartBytes, StartPackets}
use Rattle.call_line.specs.declared.LineRefusal.{LineRefusal}
use Rattle.call_line.specs.declared.LineRefusal.TheVariants.{Report as LineRefusal-as-Report, Other}
use Rattle.call_line.specs.Column.{column_of, total, cut}

-- ---- columns

-- "Every line has 50 columns: kind (2), A (20), B (20), C (8)" (Q-10)
abbrev pub wide : List ℕ
wide = 2 ∷ 20 ∷ 20 ∷ 8 ∷ []

-- "Lines of 48 columns are still read, [..] C up to its six digits" (Q-10)
abbrev pub narrow : List ℕ
narrow = 2 ∷ 20 ∷ 20 ∷ 6 ∷ []

-- "The first wrong column ends the reading of that line."
unfoldable pub four : Option ℕ → Option ℕ → Option ℕ → Option ℕ → Option Fields
four (Some kind) (Some a) (Some b) (Some c) = Some (record { kind = kind; a = a; b = b; c = c })
four (Some kind) (Some a) (Some b) None = None
four (Some kind) (Some a) None c = None
four (Some kind) None b c = None
four None a b c = None

-- the fields of a line whose columns are this wide
unfoldable pub fields_in : List ℕ → List ℕ → Option Fields
fields_in ws s = four (column_of (cut ws 0 s)) (column_of (cut ws 1 s)) (column_of (cut ws 2 s)) (column_of (cut ws 3 s))

-- "each line told by its own length" (Q-10)
unfoldable pub fields_of : List ℕ → Option Fields
fields_of s =
    if eqb (length s) (total wide) then fields_in wide s
    else (if eqb (length s) (total narrow) then fields_in narrow s else None)

-- ---- the table of kinds

-- what may stand in A, B and C
pub data Rule : Type 0 where
  none : Rule
  alone : Rule
  flagged : Rule
  packet : Rule
  bare : Rule
  flag_alone : Rule

-- the rules of the kinds 0 to 8: "kind outside 1 to 8" is refused
abbrev pub rules : List Rule
rules = none ∷ alone ∷ alone ∷ flagged ∷ flagged ∷ packet ∷ alone ∷ bare ∷ flag_alone ∷ []

abbrev pub rule_of : ℕ → Rule
rule_of kind = get_or rules kind none

abbrev pub zeros : ℕ → ℕ → Bool
zeros one other = eqb one 0 && eqb other 0

-- "a nonzero field where the table says 0"
abbrev pub allowed : Rule → ℕ → ℕ → ℕ → Bool
allowed none a b c = false
allowed alone a b c = zeros b c
-- A is "0 if off" and "0 if none". A flag that is neither 0 nor 1 is no matter of the table
allowed flagged a b c = eqb c 0 && (not (eqb b 0) || eqb a 0)
-- "Code 1 no longer limits C by size" (Q-10)
allowed packet a b c = true
allowed bare a b c = eqb a 0 && zeros b c
-- "A and C 0" (Q-7)
allowed flag_alone a b c = zeros a c

unfoldable pub in_table : ℕ → ℕ → ℕ → ℕ → Bool
in_table kind a b c = allowed (rule_of kind) a b c

-- ---- calls

-- code 2 of a rate's 64 bits
abbrev pub check_bits : ℕ → Result (Unit {0}) Refusal
check_bits n = check_rate (rate_of n)

-- a call whose argument is not refused
unfoldable pub unless_refused : Result (Unit {0}) Refusal → Call → Result Call Refusal
unless_refused check call = and_then check (λ _. Ok call)

-- "the flag's 8, 2 or 3"
unfoldable pub by_flag : ℕ → Result Call Refusal → Result Call Refusal → Result Call Refusal
by_flag b off on = if eqb b 0 then off else (if eqb b 1 then on else Err Flag)

-- "start in ns, 0 if off", "1 on, 0 off"
unfoldable pub alr_of : ℕ → ℕ → Result Call Refusal
alr_of a b = by_flag b (Ok AlrOff) (unless_refused (check_time a) (AlrOn a))

-- "rate, 0 if none", "1 given, 0 none"
unfoldable pub capacity_of : ℕ → ℕ → Result Call Refusal
capacity_of a b = by_flag b (Ok CapacityNone) (unless_refused (check_bits a) (CapacityIs a))

-- "kind 5 checks 3, 17, 8", as a report does of each packet
unfoldable pub packet_of : ℕ → ℕ → ℕ → Result Call Refusal
packet_of a b c =
    unless_refused (check_packet (record { local_send_time = a; size = c; lost = b })) (Packet a b c)

-- "B being 0 for bytes and 1 for packets", "another B is code 8" (Q-7)
unfoldable pub start_of : ℕ → Result Call Refusal
start_of b = by_flag b (Ok StartBytes) (Ok StartPackets)

-- the kinds 0 to 8
abbrev pub calls : ℕ → ℕ → ℕ → List (Result Call Refusal)
calls a b c =
    Err NotInShape
    ∷ unless_refused (check_bits a) (Estimate a)
    ∷ unless_refused (check_bits a) (Acknowledged a)
    ∷ alr_of a b
    ∷ capacity_of a b
    ∷ packet_of a b c
    ∷ unless_refused (check_bits a) (Report a)
    ∷ Ok Read
    ∷ start_of b
    ∷ []

unfoldable pub call_of : ℕ → ℕ → ℕ → ℕ → Result Call Refusal
call_of kind a b c = get_or (calls a b c) kind (Err NotInShape)

-- the table, call by call: kind, A, B and C
unfoldable pub values_of : Call → List ℕ
values_of (Estimate bandwidth) = 1 ∷ bandwidth ∷ 0 ∷ 0 ∷ []
values_of (Acknowledged bitrate) = 2 ∷ bitrate ∷ 0 ∷ 0 ∷ []
values_of (AlrOn start) = 3 ∷ start ∷ 1 ∷ 0 ∷ []
values_of AlrOff = 3 ∷ 0 ∷ 0 ∷ 0 ∷ []
values_of (CapacityIs bandwidth) = 4 ∷ bandwidth ∷ 1 ∷ 0 ∷ []
values_of CapacityNone = 4 ∷ 0 ∷ 0 ∷ 0 ∷ []
values_of (Packet time lost size) = 5 ∷ time ∷ lost ∷ size ∷ []
values_of (Report delay) = 6 ∷ delay ∷ 0 ∷ 0 ∷ []
values_of Read = 7 ∷ 0 ∷ 0 ∷ 0 ∷ []
values_of StartBytes = 8 ∷ 0 ∷ 0 ∷ 0 ∷ []
values_of StartPackets = 8 ∷ 0 ∷ 1 ∷ 0 ∷ []

-- kind, A, B and C
abbrev pub fields : List ℕ → Fields
fields ns = record { kind = get_or ns 0 0; a = get_or ns 1 0; b = get_or ns 2 0; c = get_or ns 3 0 }

-- "A line checks 1, then the flag's 8, 2 or 3", and kind 5 its packet's
unfoldable pub checked : Fields → Result Call Refusal
checked f = if in_table f.kind f.a f.b f.c then call_of f.kind f.a f.b f.c else Err NotInShape

-- "A kind 6 line that doesn't get code 1 empties the queue, whether or not another code follows."
unfoldable pub refused : ℕ → Refusal → LineRefusal
refused kind e = if eqb kind 6 && not (eqb (code e) 1) then LineRefusal-as-Report e else Other e

abbrev pub told : ℕ → Result Call Refusal → Result Call LineRefusal
told kind (Ok call) = Ok call
told kind (Err e) = Err (refused kind e)

unfoldable pub said : Option Fields → Result Call LineRefusal
said (Some f) = told f.kind (checked f)
said None = Err (Other NotInShape)

-- what a line says, its newline left out
unfoldable pub line_of : List ℕ → Result Call LineRefusal
line_of s = said (fields_of s)

-- A call written as a line (Q-1), and the two widths of a line (Q-10). Definitions only.
use Rattle.std.specs.Prelude.{ℕ, ◌+◌, ◌^◌, ◌<◌, ◌≡◌, if◌then◌else◌, Result, Ok, Err, is_ok, List, [], ◌∷◌, ◌++◌, ◌⊎◌, ltb, length, get_or, take, drop}
use Rattle.refusal.specs.Outcome.{and_then}
use Rattle.refusal.specs.declared.Refusal.{Refusal}
use Rattle.refusal.specs.declared.Refusal.TheVariants.{NoRoom}
use Rattle.packets.specs.Summary.{check_time, check_packet}
use Rattle.call_line.specs.declared.Call.{Call}
use Rattle.call_line.specs.declared.Call.TheVariants.{Estimate, Acknowledged, AlrOn, AlrOff, CapacityIs, CapacityNone, Packet, Report, Read, StartBytes, StartPackets}
use Rattle.call_line.specs.Column.{total, row}
use Rattle.call_line.specs.Line.{wide, narrow, check_bits, values_of, fields, checked, line_of}

-- ---- the text

abbrev pub ascii_newline : ℕ
ascii_newline = 10

-- "its 50 columns and the newline"
unfoldable pub line_text : Call → List ℕ
line_text call = row wide (values_of call) ++ (ascii_newline ∷ [])

-- the bytes that it takes, whatever the call
abbrev pub line_bytes : ℕ
line_bytes = total wide + 1

-- ---- the refusals

-- "Values that the reader turns down get the reader's number": its checks of the four values, whatever text they have
unfoldable pub reread : Call → Result Call Refusal
reread call = checked (fields (values_of call))

-- call by call: 2 of a rate, 3 of a time, 3, 17 or 8 of a packet. 1 does not come: the fields are the table's own
abbrev pub check : Call → Result (Unit {0}) Refusal
check (Estimate rate) = check_bits rate
check (Acknowledged rate) = check_bits rate
check (AlrOn start) = check_time start
check AlrOff = Ok tt
check (CapacityIs rate) = check_bits rate
check CapacityNone = Ok tt
check (Packet time lost size) = check_packet (record { local_send_time = time; size = size; lost = lost })
check (Report rate) = check_bits rate
check Read = Ok tt
check StartBytes = Ok tt
check StartPackets = Ok tt

-- and a call that is not turned down is read as it is
abbrev pub CallChecks : Type 0
CallChecks = (call : Call) → reread call ≡ and_then (check call) (λ _. Ok call)

-- "13 when the buffer has fewer than 51 bytes, after the reader's own checks"
unfoldable pub write_outcome : Call → ℕ → Result (Unit {0}) Refusal
write_outcome call room = and_then (reread call) (λ _. if ltb room line_bytes then Err NoRoom else Ok tt)

-- ---- the buffer

-- "Bytes after the newline are untouched"; refused, "nothing written"
unfoldable pub written : Call → List ℕ → List ℕ
written call out = if is_ok (write_outcome call (length out)) then line_text call ++ drop line_bytes out else out

-- ---- what stays

-- "nothing written" where it is refused, and "Bytes after the newline are untouched" whatever it answers
pub record Kept (call : Call) (out : List ℕ) : Type 0 where
  pub refused : (e : Refusal) → write_outcome call (length out) ≡ Err e → written call out ≡ out
  pub behind : drop line_bytes (written call out) ≡ drop line_bytes out
  pub long : length (written call out) ≡ length out

abbrev pub WriteKeeps : Type 0
WriteKeeps = (call : Call) (out : List ℕ) → Kept call out

-- ---- the round trips

-- the call's numbers are of 64 bits, as those of every call of the type
abbrev pub OfType : Call → Type 0
OfType call = (j : ℕ) → get_or (values_of call) j 0 < 2 ^ 64

-- "Reading the written line yields the call": where writing answers r and leaves `out`
abbrev pub ReadBack : Call → Result (Unit {0}) Refusal → List ℕ → Type 0
ReadBack call r out = r ≡ Ok tt → line_of (take (total wide) out) ≡ Ok call

abbrev pub WriteRead : Type 0
WriteRead = (call : Call) (out : List ℕ) → OfType call → ReadBack call (write_outcome call (length out)) (written call out)

-- "writing the call read from an accepted line of 50 columns yields that line with its newline": it is turned down for room alone
pub record WrittenBack (s : List ℕ) (call : Call) (out : List ℕ) : Type 0 where
  pub refusal : write_outcome call (length out) ≡ (if ltb (length out) (length s + 1) then Err NoRoom else Ok tt)
  pub text : length s < length out → written call out ≡ s ++ (ascii_newline ∷ drop (length s + 1) out)

abbrev pub ReadWrite : Type 0
ReadWrite = (s : List ℕ) (call : Call) → length s ≡ total wide → line_of s ≡ Ok call → (out : List ℕ) → WrittenBack s call out

-- ---- the two widths (Q-10)

-- a wide line that is taken is the text of its call
abbrev pub WideRead : Type 0
WideRead = (s : List ℕ) (call : Call) → length s ≡ total wide → line_of s ≡ Ok call → row wide (values_of call) ≡ s

-- a narrow one is the narrow text of its call, "C up to its six digits", and never what is written: "Writing a line back reproduces it only for the wide form"
pub record Narrow (s : List ℕ) (call : Call) : Type 0 where
  pub columns : row narrow (values_of call) ≡ s
  pub size : get_or (values_of call) 3 0 < 10 ^ 6
  pub rewritten : line_text call ≡ s ++ (ascii_newline ∷ []) → ⊥

abbrev pub NarrowRead : Type 0
NarrowRead = (s : List ℕ) (call : Call) → length s ≡ total narrow → line_of s ≡ Ok call → Narrow s call

-- "Lines of 48 columns are still read": the narrow text of every call whose size has room there is read as that call
abbrev pub NarrowTaken : Type 0
NarrowTaken =
    (call : Call) → OfType call → get_or (values_of call) 3 0 < 10 ^ 6 → check call ≡ Ok tt → line_of (row narrow (values_of call)) ≡ Ok call

-- a line of neither width is not taken
abbrev pub TwoWidths : Type 0
TwoWidths = (s : List ℕ) (call : Call) → line_of s ≡ Ok call → (length s ≡ total wide) ⊎ (length s ≡ total narrow)

-- The history behind demand 3, line by line as document 01 has it: a function of the calls and of whether each was refused. It knows neither the
-- controller nor its profile nor floats. Definitions only.
use Rattle.std.specs.Prelude.{ℕ, ◌+◌, max, Bool, false, if◌then◌else◌, ◌==◌, nat_lt, List, [], ◌∷◌, length, take, fold, sum, sum_by, count_by, zip, Option, Some, None, is_some, unwrap_or}
use Rattle.std.specs.Bool.{beq}
use Rattle.history.specs.Calls.{Call, estimate, acknowledged, alr, capacity, report, read, Told}

-- an observation by its sums: "bytes, lost bytes, packets and lost packets" (Q-7)
pub record Sums : Type 0 where
  pub bytes : ℕ
  pub lost_bytes : ℕ
  pub packets : ℕ
  pub lost_packets : ℕ

-- "observations newest first, [..] a running one, a time, ALR on or off, a count"
pub record History : Type 0 where
  pub observations : List Sums
  pub running : Sums
  pub time : Option ℕ
  pub on : Bool
  pub count : ℕ

abbrev pub nothing : Sums
nothing = record { bytes = 0; lost_bytes = 0; packets = 0; lost_packets = 0 }

-- "fresh: none, one of zeros, none, off, 0"
abbrev pub fresh : History
fresh = record { observations = []; running = nothing; time = None; on = false; count = 0 }

-- ---- ALR

-- "ALR, where on or off changes: the new one is held, and observations, running one and time are as fresh"
unfoldable pub switched : History → Bool → History
switched h on = if beq h.on on then h else record fresh { on = on; count = h.count }

-- ---- a report

-- of the packets whose flag is 1
abbrev pub lost_bytes_of : List ℕ → List ℕ → ℕ
lost_bytes_of sizes flags = sum_by (λ (p : ℕ × ℕ). if p.1 == 1 then p.0 else 0) (zip sizes flags)

-- how many these are
abbrev pub lost_packets_of : List ℕ → ℕ
lost_packets_of flags = count_by (λ flag. flag == 1) flags

abbrev pub latest : List ℕ → ℕ
latest times = fold max 0 times

-- "its bytes, lost bytes, packets and lost packets are added to the running one"
abbrev pub added : Sums → List ℕ → List ℕ → List ℕ → Sums
added s times sizes flags =
    record {
      bytes = s.bytes + sum sizes;
      lost_bytes = s.lost_bytes + lost_bytes_of sizes flags;
      packets = s.packets + length times;
      lost_packets = s.lost_packets + lost_packets_of flags;
    }

-- "the running one becomes the newest, a sixteenth is dropped, the running one becomes one of zeros, the time that send time, the count one more"
unfoldable pub completed : History → Sums → ℕ → History
completed h s sent = record h { observations = take 15 (s ∷ h.observations); running = nothing; time = Some sent; count = h.count + 1 }

unfoldable pub with_running : History → Sums → ℕ → History
with_running h s time = record h { running = s; time = Some time }

-- "Where that send time exceeds the time by more than 250,000,000 ns, an observation completes"
unfoldable pub with_report : History → Sums → ℕ → ℕ → History
with_report h s time sent = if nat_lt (time + 250000000) sent then completed h s sent else with_running h s time

-- ---- one call, and a list of them, oldest first

-- "without packets, no change"; "its latest send time becomes the time if there is none"; "a read, or a setter other than ALR: no change"
unfoldable pub heard : History → Call → History
heard h (estimate rate) = h
heard h (acknowledged rate) = h
heard h (alr start) = switched h (is_some start)
heard h (capacity rate) = h
heard h (report times sizes flags delay) =
    if length times == 0 then h
    else with_report h (added h.running times sizes flags) (unwrap_or h.time (latest times)) (latest times)
heard h read = h

-- "Refused [..]: no change"
unfoldable pub fed : History → Told → History
fed h t = if t.refused then h else heard h t.call

abbrev pub after : List Told → History
after ts = fold fed fresh ts

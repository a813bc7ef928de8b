-- Which refusal document 01 gives a call, by the call and the history before it alone ("Codes from the input", "Codes from the state"), and the
-- claim over every list of calls. Definitions only.
use Rattle.std.specs.Prelude.{ℕ, ◌+◌, ◌^◌, ◌≡◌, Bool, if◌then◌else◌, ◌&&◌, ◌||◌, ◌==◌, nat_le, nat_lt, List, length, sum, unwrap_or, option_map}
use Rattle.std.specs.Prelude.{Result, Ok, Err, IsOk}
use Rattle.refusal.specs.Outcome.{and_then, try_fold, number}
use Rattle.refusal.specs.declared.Refusal.{Refusal}
use Rattle.refusal.specs.declared.Refusal.TheVariants.{RunningSums, Observations}
use Rattle.packets.specs.Summary.{check_columns, packets, check_packet}
use Rattle.packets.specs.declared.PacketResult.{PacketResult}
use Rattle.loss_controller.specs.Setters.{rate_of, check_rate, check_capacity, check_start}
use Rattle.loss_controller.specs.Result.{average_reported_loss_ratio}
use Rattle.loss_controller.specs.declared.LossController.{LossController}
use Rattle.history.specs.Calls.{Call, estimate, acknowledged, alr, capacity, report, read}
use Rattle.history.specs.History.{History, latest, after}
use Rattle.history.specs.Run.{step, left, told}

-- ---- a report

-- "then each packet's 3 and 8": the first packet that has one gives the report's
abbrev pub check_packets : List PacketResult → Result (Unit {0}) Refusal
check_packets ps = try_fold (λ _ p. check_packet p) tt ps

-- "10: running bytes would pass 10^12, or packets 10^9, in both profiles"
abbrev pub passes : History → ℕ → ℕ → Bool
passes h packets bytes = nat_lt (10 ^ 9) (h.running.packets + packets) || nat_lt (10 ^ 12) (h.running.bytes + bytes)

-- "11: 10^9 observations are complete and this report would complete another."
abbrev pub fills : History → ℕ → Bool
fills h sent = nat_lt (unwrap_or h.time sent + 250000000) sent && nat_le (10 ^ 9) h.count

abbrev pub check_state : History → ℕ → ℕ → ℕ → Result (Unit {0}) Refusal
check_state h packets bytes sent =
    if passes h packets bytes then Err RunningSums
    else if fills h sent then Err Observations
    else Ok tt

-- "A report checks 4, 5, 2, then each packet's 3 and 8, then 10, 11."; "says 10 on an empty one" is wrong
unfoldable pub check_report : History → List ℕ → List ℕ → List ℕ → ℕ → Result (Unit {0}) Refusal
check_report h times sizes flags delay =
    and_then (check_columns times sizes flags) (λ _.
    and_then (check_rate (rate_of delay)) (λ _.
    and_then (check_packets (packets times sizes flags)) (λ _.
    if length times == 0 then Ok tt else check_state h (length times) (sum sizes) (latest times))))

-- ---- any call

unfoldable pub check_call : History → Call → Result (Unit {0}) Refusal
check_call h (estimate rate) = check_rate (rate_of rate)
check_call h (acknowledged rate) = check_rate (rate_of rate)
check_call h (alr start) = check_start start
check_call h (capacity rate) = check_capacity (option_map rate_of rate)
check_call h (report times sizes flags delay) = check_report h times sizes flags delay
check_call h read = Ok tt

-- its number: 0 where it is taken
abbrev pub refusal_of : History → Call → ℕ
refusal_of h call = number (check_call h call)

-- ---- the claim

-- every call gets the number that the history gives it, so never 6 or 7; and the ratio that a read gives is not refused
pub record Refusals (c : LossController) (h : History) : Type 0 where
  pub each : (call : Call) → number (step c call) ≡ refusal_of h call
  pub ratio : IsOk (average_reported_loss_ratio c)

-- demand 2's "a call is refused only where document 01 says", after every list of calls; the numbers are the same under both profiles (Q-7)
abbrev pub Refusals2 : Type 0
Refusals2 = (use_bytes : Bool) (calls : List Call) → Refusals (left use_bytes calls) (after (told use_bytes calls))

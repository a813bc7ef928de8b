-- What demand 3 asks of a controller beside a history, and the claim over every list of calls. Definitions only.
use Rattle.std.specs.Prelude.{ℕ, ◌*◌, ◌≤◌, ◌<◌, ◌≡◌, Bool, List, T, IfSome, Result, IsOkAnd, Float}
use Rattle.refusal.specs.declared.Refusal.{Refusal}
use Rattle.rounding.specs.Exact.{Close, UnderCeiling}
use Rattle.rounding.specs.Plain.{plain}
use Rattle.loss_controller.specs.Result.{loss_based_result, average_reported_loss_ratio, num_observations}
use Rattle.loss_controller.specs.declared.LossController.{LossController}
use Rattle.history.specs.Calls.{Call}
use Rattle.history.specs.History.{History, after}
use Rattle.history.specs.WeighedPairs.{pairs, weighed_lost, weighed_total, all_totals}
use Rattle.history.specs.Run.{left, told}

-- "the reported loss ratio is within r/2^46 of r", for r = l / t: not refused, finite with its sign clear, and so near
abbrev pub NearRatio : Result Float Refusal → ℕ → ℕ → Type 0
NearRatio ratio l t = IsOkAnd ratio (λ x. Close x l t)

-- "no published rate exceeds 100,000/(r - 1/20) bit/s by more than one part in 2^40", for r = l / t: x is finite with its sign clear, and under that
-- ceiling
pub record UnderLossCeiling (x : Float) (l t : ℕ) : Type 0 where
  pub plainly : T (plain x)
  pub under : UnderCeiling x l t

-- l / t is r: "r is the sum of weight × lost bytes over that of weight × bytes"; "Under packets, demand 3 and its history count packets wherever they count
-- bytes" (Q-7)
pub record Demand (use_bytes : Bool) (c : LossController) (h : History) : Type 0 where
  -- "the count equal to the history's after every list"
  pub counted : num_observations c ≡ h.count
  -- "if the window has bytes", or packets: the ratio
  pub near : 0 < all_totals (pairs use_bytes h) → NearRatio (average_reported_loss_ratio c) (weighed_lost use_bytes h) (weighed_total use_bytes h)
  -- "a published rate is one that `loss_based_result` gives while the controller's own estimate is finite": each is finite with its sign clear
  pub clear : IfSome (loss_based_result c).bandwidth_estimate (λ published. T (plain published.bps))
  -- "and where r is at least 0.06": each is under the ceiling
  pub capped : 0 < all_totals (pairs use_bytes h) → 6 * weighed_total use_bytes h ≤ 100 * weighed_lost use_bytes h
      → IfSome (loss_based_result c).bandwidth_estimate (λ published. UnderLossCeiling published.bps (weighed_lost use_bytes h) (weighed_total use_bytes h))

-- demand 3: for each profile, after every list of calls
abbrev pub Demand3 : Type 0
Demand3 = (use_bytes : Bool) (calls : List Call) → Demand use_bytes (left use_bytes calls) (after (told use_bytes calls))

-- What no list of calls comes to: a loss ratio above 1, and a logarithm without an argument (request Q-6). Definitions only.
use Rattle.std.specs.Prelude.{ℕ, ◌≡◌, Bool, List, Result, IsOkAnd, Float}
use Rattle.refusal.specs.Outcome.{number}
use Rattle.refusal.specs.declared.Refusal.{Refusal}
use Rattle.rounding.specs.Exact.{AtMostOne}
use Rattle.loss_controller.specs.Result.{average_reported_loss_ratio}
use Rattle.history.specs.Calls.{Call}
use Rattle.history.specs.Run.{step, left}

-- a ratio that is not refused, finite with its sign clear, and its numerator at most its denominator
abbrev pub BoundedRatio : Result Float Refusal → Type 0
BoundedRatio ratio = IsOkAnd ratio AtMostOne

-- "over calls from a fresh controller the ratio never passes 1"
abbrev pub RatioAtMostOne : Type 0
RatioAtMostOne = (use_bytes : Bool) (calls : List Call) → BoundedRatio (average_reported_loss_ratio (left use_bytes calls))

-- "6: a logarithm argument outside the domain above."
abbrev pub outside_domain : ℕ
outside_domain = 6

-- "The logarithm's code 6 stays at the public logarithm, and over those calls the controller is shown never to meet it": whatever call comes next
abbrev pub Never6 : Type 0
Never6 = (use_bytes : Bool) (calls : List Call) (call : Call) → number (step (left use_bytes calls) call) ≡ outside_domain → ⊥

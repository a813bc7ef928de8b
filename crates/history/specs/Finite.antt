-- What request Q-5 asks of the rates, over every list of calls: an estimate that is finite stays so, and neither it nor a published rate passes 10^15
-- bit/s. Definitions only.
use Rattle.std.specs.Prelude.{ℕ, ◌*◌, ◌^◌, ◌≤◌, Bool, true, false, List, T, IfSome, Float}
use Rattle.std.specs.List.{list_all}
use Rattle.std.specs.Float.Ieee.Positive.{num, den}
use Rattle.std.specs.Float.Ieee.Scale.{finite}
use Rattle.rounding.specs.Plain.{plain}
use Rattle.loss_controller.specs.Result.{loss_based_result}
use Rattle.loss_controller.specs.Setters.{rate_of}
use Rattle.loss_controller.specs.declared.LossController.{LossController}
use Rattle.history.specs.Calls.{Call, estimate, report}
use Rattle.history.specs.Run.{left_of, left}

-- the controller's own estimate
abbrev pub estimate_of : LossController → Float
estimate_of c = c.estimator.current_estimate.loss_limited_bandwidth.bps

-- ---- a finite estimate stays finite

abbrev pub is_report : Call → Bool
is_report (report times sizes flags delay) = true
is_report other = false

-- every call but an estimate that is itself not finite
abbrev pub hands_finite : Call → Bool
hands_finite (estimate rate) = finite (rate_of rate).bps
hands_finite other = true

abbrev pub KeptFinite : LossController → List Call → Type 0
KeptFinite c later = T (finite (estimate_of c)) → T (finite (estimate_of (left_of c later)))

-- "A controller reached by calls from a fresh one keeps a finite estimate finite through any reports", refused ones among them; and through any calls
-- of which none is an estimate that is itself not finite, so through each such call. The first is the request's sentence, and follows from the second
pub record KeepsFinite (c : LossController) : Type 0 where
  pub reports : (later : List Call) → T (list_all is_report later) → KeptFinite c later
  pub calls : (later : List Call) → T (list_all hands_finite later) → KeptFinite c later

abbrev pub StaysFinite : Type 0
StaysFinite = (use_bytes : Bool) (calls : List Call) → KeepsFinite (left use_bytes calls)

-- ---- at most 10^15

-- "10^15 bit/s"
abbrev pub most_bits : ℕ
most_bits = 10 ^ 15

-- finite with its sign clear, and at most that
pub record UpToMost (x : Float) : Type 0 where
  pub plainly : T (plain x)
  pub below : num x ≤ most_bits * den x

pub record Limited (c : LossController) : Type 0 where
  pub estimate : T (finite (estimate_of c)) → UpToMost (estimate_of c)
  pub published : IfSome (loss_based_result c).bandwidth_estimate (λ published. UpToMost published.bps)

abbrev pub AtMost : Type 0
AtMost = (use_bytes : Bool) (calls : List Call) → Limited (left use_bytes calls)

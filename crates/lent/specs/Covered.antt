-- "a thin form gives what its call gives" (document 01, "History behind demand 3"): what an answer is, after a list of calls from a fresh controller of
-- either profile, if it is that of one call more. Definitions only.
use Rattle.std.specs.Prelude.{◌≡◌, Bool, List, [], ◌∷◌, ◌++◌, Result}
use Rattle.std.specs.Result.{result_unwrap_or}
use Rattle.refusal.specs.Outcome.{number}
use Rattle.refusal.specs.declared.Refusal.{Refusal}
use Rattle.loss_controller.specs.declared.LossController.{LossController}
use Rattle.history.specs.Calls.{Call}
use Rattle.history.specs.History.{after}
use Rattle.history.specs.Run.{step, left, told}
use Rattle.history.specs.Refusals.{refusal_of}
use Rattle.history.specs.Demand.{Demand}

abbrev pub then : List Call → Call → List Call
then calls call = calls ++ (call ∷ [])

-- what an answer leaves: a refusal, the controller as it was
abbrev pub left_by : Bool → List Call → Result LossController Refusal → LossController
left_by use_bytes calls a = result_unwrap_or a (left use_bytes calls)

pub record Covered (use_bytes : Bool) (calls : List Call) (call : Call) (a : Result LossController Refusal) : Type 0 where
  pub steps : a ≡ step (left use_bytes calls) call
  -- so it is refused exactly where document 01 says
  pub refused : number a ≡ refusal_of (after (told use_bytes calls)) call
  -- and what it leaves is what the longer list leaves, of which demand 3 holds
  pub leaves : left_by use_bytes calls a ≡ left use_bytes (then calls call)
  pub demanded : Demand use_bytes (left_by use_bytes calls a) (after (told use_bytes (then calls call)))

-- A refused call leaves no trace: the claim for any controller and any list of calls. Definitions only.
use Rattle.std.specs.Prelude.{◌≡◌, if◌then◌else◌, List, [], ◌∷◌, All, filter, Result, is_ok, IsOk, IsErr}
use Rattle.refusal.specs.declared.Refusal.{Refusal}
use Rattle.loss_controller.specs.declared.LossController.{LossController}
use Rattle.history.specs.Calls.{Call}
use Rattle.history.specs.Run.{step, next, left_of}

-- ---- the answers to a list of calls, oldest first

unfoldable pub answers_of : LossController → List Call → List (Result LossController Refusal)
answers_of c [] = []
answers_of c (call ∷ calls) = step c call ∷ answers_of (next c call) calls

-- the answers to "every other call"
abbrev pub without_refusals : List (Result LossController Refusal) → List (Result LossController Refusal)
without_refusals answers = filter is_ok answers

abbrev pub NoneRefused : List (Result LossController Refusal) → Type 0
NoneRefused answers = All IsOk answers

-- "the sequence without the refused ones": the calls that are taken where they come in the whole sequence
unfoldable pub without_refused : LossController → List Call → List Call
without_refused c [] = []
without_refused c (call ∷ calls) =
    let rest = without_refused (next c call) calls in
    if is_ok (step c call) then call ∷ rest else rest

-- ---- the claim

-- demand 1: a refusal "hands the controller back unchanged"
abbrev pub HandsBack : LossController → Call → Type 0
HandsBack c call = IsErr (step c call) → next c call ≡ c

-- demand 2: "every other call in a sequence gives the Rust's answer to the sequence without the refused ones": the answer it has there, controller and
-- all, for all calls there are taken; and both sequences leave the same controller
pub record Unrefused (c : LossController) (calls : List Call) : Type 0 where
  pub answers : without_refusals (answers_of c calls) ≡ answers_of c (without_refused c calls)
  pub none : NoneRefused (answers_of c (without_refused c calls))
  pub leaves : left_of c calls ≡ left_of c (without_refused c calls)

-- from any controller, so from a fresh one of either profile and from what any list left
pub record UnrefusedFrom (c : LossController) : Type 0 where
  pub each : (call : Call) → HandsBack c call
  pub whole : (calls : List Call) → Unrefused c calls

abbrev pub Unrefused1 : Type 0
Unrefused1 = (c : LossController) → UnrefusedFrom c

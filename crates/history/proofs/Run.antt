-- Induction over a run: for any property of a controller and a history. Assumes nothing.
use Rattle.std.proofs.Common.{Bool, List, [], ◌∷◌, fold}
use Rattle.loss_controller.specs.Controller.{initial}
use Rattle.loss_controller.specs.declared.LossController.{LossController}
use Rattle.history.specs.Calls.{Call}
use Rattle.history.specs.History.{History, fresh, fed, after}
use Rattle.history.specs.Run.{next, told_of, left_of, all_told, left, told}

-- what the fresh controller and the fresh history have, and every call keeps, holds after every list
module _ (P : LossController → History → Type 0) (kept : (c : LossController) (h : History) (call : Call) → P c h
    → P (next c call) (fed h (told_of c call))) where
  along : (calls : List Call) (c : LossController) (h : History) → P c h → P (left_of c calls) (fold fed h (all_told c calls))
  unfolding all_told
  along [] c h p = p
  along (call ∷ calls) c h p = along calls (next c call) (fed h (told_of c call)) (kept c h call p)

  pub always : (use_bytes : Bool) → P (initial use_bytes) fresh → (calls : List Call) → P (left use_bytes calls) (after (told use_bytes calls))
  always use_bytes start calls = along calls (initial use_bytes) fresh start

-- A refused call hands the controller back, whatever the controller; so a list of calls leaves and answers what it does without its refused calls.
-- Assumes nothing.
use Rattle.std.proofs.Common.{◌≡◌, List, [], ◌∷◌, IsOk, is_ok, subst, All, rules}
use Rattle.std.proofs.lemmas.List.Elements.{filter_passes}
use Rattle.loss_controller.specs.declared.LossController.{LossController}
use Rattle.history.specs.Calls.{Call}
use Rattle.history.specs.Run.{next, left_of}
use Rattle.history.specs.Unrefused.{answers_of, without_refusals, without_refused, HandsBack, Unrefused, Unrefused1}

hands_back : (c : LossController) (call : Call) → HandsBack c call
hands_back c call = search rules

-- the answers and what is left, of the list and of the list without its refused calls
record Same (c : LossController) (calls : List Call) : Type 0 where
  answers : without_refusals (answers_of c calls) ≡ answers_of c (without_refused c calls)
  leaves : left_of c calls ≡ left_of c (without_refused c calls)

same : (c : LossController) (calls : List Call) → Same c calls
unfolding answers_of without_refused
same c [] = search rules
same c (call ∷ calls) = search (rules, same (next c call) calls)

unrefused_from : (c : LossController) (calls : List Call) → Unrefused c calls
unrefused_from c calls =
    let s = same c calls in
    record { answers = s.answers; none = subst (All IsOk) s.answers (filter_passes is_ok (answers_of c calls)); leaves = s.leaves }

pub unrefused : Unrefused1
unrefused c = search (rules, hands_back, unrefused_from)

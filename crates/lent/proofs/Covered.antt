-- Demand 3 and the theorem of the refusals hold of the thin forms as of the report over three columns. Assumes nothing.
use Rattle.std.proofs.Common.{◌≡◌, ℕ, Bool, List, [], ◌∷◌, refl, sym, subst}
use Rattle.std.proofs.lemmas.List.Sums.{fold-append}
use Rattle.packets.specs.declared.PacketResult.{PacketResult}
use Rattle.loss_controller.specs.Controller.{initial}
use Rattle.loss_controller.specs.Report.{update_bandwidth_estimate}
use Rattle.loss_controller.specs.declared.LossController.{LossController}
use Rattle.loss_controller.specs.Setters.{rate_of}
use Rattle.history.specs.Calls.{Call, report}
use Rattle.history.specs.History.{after}
use Rattle.history.specs.Run.{step, next, left, told}
use Rattle.history.specs.Demand.{Demand}
use Rattle.history.proofs.Demand.{demand_3}
use Rattle.history.proofs.Refusals.{refusals}
use Rattle.lent.specs.Records.{times, sizes, flags, update_records}
use Rattle.lent.specs.Covered.{then, left_by, Covered}

-- any call's step
step_covered : (use_bytes : Bool) (calls : List Call) (call : Call) → Covered use_bytes calls call (step (left use_bytes calls) call)
step_covered use_bytes calls call =
    let longer = then calls call in
    let one_more : left_by use_bytes calls (step (left use_bytes calls) call) ≡ left use_bytes longer =
    sym (fold-append next (initial use_bytes) calls (call ∷ [])) in
    record {
      steps = refl;
      refused = (refusals use_bytes calls).each call;
      leaves = one_more;
      demanded = subst (λ (c : LossController). Demand use_bytes c (after (told use_bytes longer))) (sym one_more) (demand_3 use_bytes longer);
    }

-- `update_lent`, by its contract
pub lent_covered : (use_bytes : Bool) (calls : List Call) (times sizes flags : List ℕ) (delay : ℕ)
    → Covered use_bytes calls (report times sizes flags delay) (update_bandwidth_estimate (left use_bytes calls) times sizes flags (rate_of delay))
unfolding step
lent_covered use_bytes calls times sizes flags delay = step_covered use_bytes calls (report times sizes flags delay)

-- `update_records`, by its own
pub records_covered : (use_bytes : Bool) (calls : List Call) (records : List PacketResult) (delay : ℕ)
    → Covered use_bytes calls (report (times records) (sizes records) (flags records) delay) (update_records (left use_bytes calls) records (rate_of delay))
records_covered use_bytes calls records delay = lent_covered use_bytes calls (times records) (sizes records) (flags records) delay

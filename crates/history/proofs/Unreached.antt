-- No list of calls comes to a loss ratio above 1, or to a call that is refused with 6. Assumes nothing.
use Rattle.std.proofs.Common.{rules, ◌≡◌, List, [], ◌∷◌, Result}
use Rattle.refusal.specs.Outcome.{number}
use Rattle.refusal.specs.declared.Refusal.{Refusal}
use Rattle.packets.specs.Summary.{check_time, check_columns, check_packet}
use Rattle.packets.specs.declared.PacketResult.{PacketResult}
use Rattle.loss_controller.specs.Result.{average_reported_loss_ratio}
use Rattle.loss_controller.specs.Setters.{check_rate, check_capacity, check_start}
use Rattle.history.specs.Calls.{Call}
use Rattle.history.specs.History.{History}
use Rattle.history.specs.Refusals.{check_packets, check_report, check_call}
use Rattle.history.specs.Unreached.{RatioAtMostOne, outside_domain, Never6}
use Rattle.history.proofs.Weighed.{ratio_taken, ratio_bounded}
use Rattle.history.proofs.Refusals.{refusals}
use Rattle.history.proofs.Step.{reached}

pub every_ratio_at_most_one : RatioAtMostOne
unfolding average_reported_loss_ratio
every_ratio_at_most_one use_bytes calls = search (rules, reached, ratio_taken, ratio_bounded)

-- ---- of document 01's numbers for a call, none is 6

abbrev NotSix : Result (Unit {0}) Refusal → Type 0
NotSix check = number check ≡ outside_domain → ⊥

packets_not_six : (ps : List PacketResult) → NotSix (check_packets ps)
unfolding check_packet
packets_not_six [] = search rules
packets_not_six (p ∷ ps) = search (rules, packets_not_six ps)

call_not_six : (h : History) (call : Call) → NotSix (check_call h call)
unfolding check_call check_report check_columns check_rate check_capacity check_start check_time
call_not_six h call = search (rules, packets_not_six)

pub never_6 : Never6
never_6 use_bytes calls call six = search (rules, call_not_six, (refusals use_bytes calls).each)

-- Request Q-5: after every list of calls a finite estimate stays finite, and it and every published rate are at most 10^15. Assumes nothing.
use Rattle.std.proofs.Common.{rules, List, [], ◌∷◌, T}
use lib.Ieee.{of_bits}
use Rattle.std.specs.List.{list_all}
use Rattle.rounding.proofs.Order.{under_of_not_lt}
use Rattle.bandwidth.specs.Rate.{most_rate}
use Rattle.bandwidth.specs.declared.Bitrate.{Bitrate}
use Rattle.bandwidth.proofs.Limited.{LimitedRate}
use Rattle.loss_controller.specs.declared.LossController.{LossController}
use Rattle.history.specs.Calls.{Call}
use Rattle.history.specs.Finite.{is_report, hands_finite, KeptFinite, StaysFinite, UpToMost, AtMost}
use Rattle.history.specs.History.{History, fed}
use Rattle.history.specs.Run.{next, told_of}
use Rattle.history.proofs.Demand.{limited_plain, published_limited}
use Rattle.history.proofs.Reached.{Reached}
use Rattle.history.proofs.Step.{estimate_kept, step_reached, reached}

-- ---- a finite estimate stays finite

kept : (later : List Call) (c : LossController) (h : History) → Reached c h → T (list_all hands_finite later) → KeptFinite c later
kept [] c h r n f = f
kept (call ∷ later) c h r n f =
    kept later (next c call) (fed h (told_of c call)) (step_reached c h call r) (search rules) (search (rules, estimate_kept c h r call))

-- reports are no estimates
reports_hand : (later : List Call) → T (list_all is_report later) → T (list_all hands_finite later)
reports_hand [] n = tt
reports_hand (call ∷ later) n = search (rules, reports_hand later)

pub stays_finite : StaysFinite
stays_finite use_bytes calls =
    let r = reached use_bytes calls in
    record { reports = λ later n. kept later _ _ r (reports_hand later n); calls = λ later n. kept later _ _ r n }

-- ---- at most 10^15

up_to_most_lem : (r : Bitrate) → LimitedRate r → UpToMost r.bps
unfolding of_bits
up_to_most_lem r l =
    let under = under_of_not_lt {x = most_rate.bps} {y = r.bps} tt (limited_plain r l) l.within in search (rules, under.below, limited_plain)

pub at_most_lem : AtMost
at_most_lem use_bytes calls =
    let r = reached use_bytes calls in search (rules, up_to_most_lem, published_limited _ _ r, r.estimator.rates.current)

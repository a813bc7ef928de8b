-- What every list of calls leaves, every call keeps; it is refused exactly where document 01 says; and, but for an estimate that is not finite, it keeps
-- a finite estimate finite. Assumes nothing.
use Rattle.std.proofs.Common.{rules, arith, length, ◌≡◌, ℕ, ◌*◌, ◌^◌, ◌≤◌, Bool, false, cond, List, Option, is_some, option_map, Result, Ok, is_err, T, eqb, refl}
use borrow.Author.Tests.{eqb-false}
use lib.Ieee.Scale.{finite}
use Rattle.std.specs.Bool.{beq}
use Rattle.std.specs.Cmp.{booleans_Decides}
use Rattle.std.specs.Result.{result_unwrap_or}
use Rattle.refusal.specs.Outcome.{and_then}
use Rattle.refusal.specs.declared.Refusal.{Refusal}
use Rattle.refusal.proofs.Alike.{Alike, answers, same, alike_first, alike_then, alike_after, alike_gives}
use Rattle.float.proofs.Refusal.{agreed}
use Rattle.bandwidth.specs.declared.Bitrate.{Bitrate}
use Rattle.bandwidth.proofs.Limited.{limited_finite}
use Rattle.packets.specs.Summary.{check_columns}
use Rattle.packets.specs.declared.PacketResultsSummary.{PacketResultsSummary}
use Rattle.packets.proofs.Totals.{summary_early}
use Rattle.observation.specs.Window as Window
use Rattle.loss_controller.specs.Setters as Setters
use Rattle.loss_controller.specs.Setters.{rate_of, check_rate, check_capacity, check_start, is_in_alr, with_alr_start_time, reset_observations}
use Rattle.loss_controller.specs.Report as Report
use Rattle.loss_controller.specs.declared.LossController.{LossController}
use Rattle.history.specs.Calls.{Call, estimate, acknowledged, alr, capacity, report, read}
use Rattle.history.specs.History.{History, switched, completed, with_running, with_report, heard, fed, after}
use Rattle.history.specs.Refusals.{check_state, check_report, check_call}
use Rattle.history.specs.Finite.{estimate_of, hands_finite}
use Rattle.history.specs.Run.{step, next, told_of, left, told}
use Rattle.history.proofs.Sums.{summed}
use Rattle.history.proofs.Tied.{reset_tied}
use Rattle.history.proofs.Observed.{Parted, summary_parted, heard_totals, added_alike}
use Rattle.history.proofs.Reached.{TakenRate, Reached, rate_taken, capacity_taken, cleared_sound, added_sound, initial_reached}
use Rattle.history.proofs.Reached.{updated_taken}
use Rattle.history.proofs.Run.{always}

-- of a controller that a call leaves: it is reached, with the history that has heard the call; and under E its estimate is finite, E being that it was
-- before and that the call hands over no other, or nothing that can be where no estimate is asked for
pub record Leaves (E : Type 0) (after : History) (c : LossController) : Type 0 where
  pub reached : Reached c after
  pub estimate : E → T (finite (estimate_of c))

-- the call is refused as the history's check of it is, and otherwise leaves such a controller
abbrev pub Answered : Type 0 → Result LossController Refusal → Result (Unit {0}) Refusal → History → Type 0
Answered E answer check after = Alike (λ c _. Leaves E after c) answer check

-- a test that the controller and the history make alike
alike : {E : Type 0} (b : Bool) {x y : Result LossController Refusal} {m n : Result (Unit {0}) Refusal} {u v : History} → Answered E x m u
    → (b ≡ false → Answered E y n v) → Answered E (cond b x y) (cond b m n) (cond b u v)
alike b p q = search rules

module _ (c : LossController) (h : History) (r : Reached c h) (E : Type 0) (k : E → T (finite (estimate_of c))) where
  -- ---- a setter

  set_answered : (check : Result (Unit {0}) Refusal) (set : LossController) (after : History) → (check ≡ Ok tt → Reached set after)
      → (E → T (finite (estimate_of set))) → Answered E (and_then check (λ _. Ok set)) check after
  set_answered check set after taken kept = search (rules, alike_gives)

  switched_reached : (start : Option ℕ)
      → let set = with_alr_start_time c start in
      Reached (cond (beq (is_in_alr c) (is_some start)) set (reset_observations set)) (switched h (is_some start))
  unfolding with_alr_start_time reset_observations switched Window.cleared
  switched_reached start =
      agreed Reached (beq (is_in_alr c) (is_some start)) (beq h.on (is_some start)) (cc)
      (λ e. search (rules, (booleans_Decides (is_in_alr c) (is_some start)).0 e))
      (λ e. record {
        tied = rw r.tied.windowed.count (reset_tied c.observations.use_byte_loss_ratio h.count (is_some start));
        on = refl;
        observations = cleared_sound _ _;
        estimator = r.estimator;
        inputs = search rules;
      })

  -- ---- a report

  -- the steps after a complete observation are not refused
  observed_answered : (new : LossController) (after : History) (completed : Bool) → Reached new after → new.estimator ≡ c.estimator
      → Answered E (Report.observed new completed) (Ok tt) after
  unfolding Report.observed
  observed_answered new after completed j e = search (rules, updated_taken new after j, limited_finite, answers, k)

  reported_answered : (s : PacketResultsSummary) (delay : Bitrate) → TakenRate delay → Parted s → s.last_send_time ≤ 4 * 10 ^ 18
      → let none = eqb s.num_packets 0 in
      Answered E (Report.reported c s delay) (cond none (Ok tt) (check_state h s.num_packets s.total_size s.last_send_time)) (cond none h (heard_totals h s))
  unfolding Report.reported Report.with_delay_based_estimate with_report completed with_running
  reported_answered s delay d parted early =
      let o = c.observations in
      alike (eqb s.num_packets 0) (search (rules, answers, k))
      (λ e. alike_first _ (added_alike o h r.tied s parted (eqb-false s.num_packets 0 e))
      (λ a _ is tied. observed_answered _ (heard_totals h s) a.completed (search (rules, tied, added_sound o s r.observations early)) refl))

  updated_answered : (times sizes flags : List ℕ) (delay : ℕ)
      → Answered E (Report.update_bandwidth_estimate c times sizes flags (rate_of delay)) (check_report h times sizes flags delay)
      (heard h (report times sizes flags delay))
  unfolding Report.update_bandwidth_estimate check_report heard
  updated_answered times sizes flags delay =
      alike_after (check_columns times sizes flags) _ _
      (λ _ columns. alike_after (check_rate (rate_of delay)) _ _
      (λ _ rate. alike_then _ _ (summed times sizes flags columns)
      (λ s _ is m. let packets : s.num_packets ≡ length times = omega (arith, m.packets) in
      rw (← packets, ← m.bytes, ← m.lost_bytes, ← m.lost_packets, ← m.last)
      (search (rules, reported_answered, rate_taken, summary_parted, summary_early)))))

  -- ---- any call

  pub answered : (call : Call) → (E → T (hands_finite call)) → Answered E (step c call) (check_call h call) (heard h call)
  unfolding step check_call heard Setters.set_bandwidth_estimate Setters.set_acknowledged_bitrate Setters.set_link_capacity_estimate
      Setters.set_alr_start_time with_alr_start_time reset_observations
  answered (estimate n) finite_estimate = set_answered (check_rate (rate_of n)) _ h (λ e. search (rules, (rate_taken n e).limited)) finite_estimate
  answered (acknowledged n) u = set_answered (check_rate (rate_of n)) _ h (λ e. search (rules, rate_taken n e)) k
  answered (alr start) u = set_answered (check_start start) _ _ (λ e. switched_reached start) (search (rules, k))
  answered (capacity n) u = set_answered (check_capacity (option_map rate_of n)) _ h (λ e. search (rules, capacity_taken n e)) k
  answered (report times sizes flags delay) u = updated_answered times sizes flags delay
  answered read u = search (rules, answers, k)

-- what is said of every call, whatever becomes of the estimate
pub any_answer : (c : LossController) (h : History) → Reached c h → (call : Call) → Answered ⊥ (step c call) (check_call h call) (heard h call)
any_answer c h r call = search (rules, answered)

-- a refused call leaves the controller and the history as they were
stays : {E : Type 0} (c : LossController) (h after : History) {a : Result LossController Refusal} {check : Result (Unit {0}) Refusal}
    → Leaves E h c → Answered E a check after → Leaves E (cond (is_err a) h after) (result_unwrap_or a c)
stays c h after kept (answers l) = search rules
stays c h after kept same = search rules

-- every call but an estimate that is not finite keeps a finite one
pub estimate_kept : (c : LossController) (h : History) → Reached c h → (call : Call) → T (hands_finite call) → T (finite (estimate_of c))
    → T (finite (estimate_of (next c call)))
estimate_kept c h r call n f =
    (stays c h (heard h call) (search (rules, f)) (answered c h r (Unit {0}) (λ u. f) call (λ u. n))).estimate tt

-- ---- every list

pub step_reached : (c : LossController) (h : History) (call : Call) → Reached c h → Reached (next c call) (fed h (told_of c call))
unfolding fed told_of
step_reached c h call r = search (rules, stays, any_answer c h r call)

pub reached : (use_bytes : Bool) (calls : List Call) → Reached (left use_bytes calls) (after (told use_bytes calls))
reached use_bytes calls = always Reached step_reached use_bytes (initial_reached use_bytes) calls

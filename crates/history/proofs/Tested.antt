-- The claims as tests that compute, and that they make the tests true: where an edited definition makes a test false on a list, the edited claims are
-- false (tools/refute.py). No theorem cites it. Assumes nothing.
use Rattle.std.proofs.Common.{rules, ◌≡◌, ℕ, ◌+◌, ◌*◌, Bool, true, false, not, ◌&&◌, ◌||◌, List, [], ◌∷◌, ◌++◌, map, Option, Some, None, Result, Ok, Err, is_ok, Float, eqb, leb, ltb, refl}
use lib.Ieee.{add, binary64, div, eq, in_float, is_nan, lt, mul, of_bits, of_int, sub, to_bits}
use lib.Ieee.Positive.{num, den}
use lib.Ieee.Scale.{finite}
use Rattle.std.specs.List.{list_all}
use Rattle.std.proofs.lemmas.List.Sums.{fold-append, list_all-from_AllPass}
use Rattle.refusal.specs.Outcome.{number}
use Rattle.refusal.specs.Refusal.{code}
use Rattle.refusal.specs.declared.Refusal.{Refusal}
use Rattle.float.specs.Rust.{minimum, sign_bit}
use Rattle.duration.specs.Seconds.{seconds}
use Rattle.bandwidth.specs.Rate as Rate
use Rattle.bandwidth.specs.Size as Size
use Rattle.bandwidth.specs.declared.Bitrate.{Bitrate}
use Rattle.time.specs.Delta as Delta
use Rattle.time.specs.Time as Time
use Rattle.logarithm.specs.Power.{weight}
use Rattle.rounding.specs.Exact.{exact_sum, ratio_part, ceiling_part}
use Rattle.rounding.specs.Plain.{plain}
use Rattle.rounding.specs.Ratio.{loss_ratio, loss_ceiling}
use Rattle.packets.specs.Summary.{check_time, check_columns, packets, check_packet, add_packet, summary_of}
use Rattle.observation.specs.Partial.{updated}
use Rattle.observation.specs.Ratio as Ratio
use Rattle.observation.specs.Window as Window
use Rattle.candidates.specs.Bound.{at_most}
use Rattle.loss_controller.specs.Controller.{initial}
use Rattle.loss_controller.specs.Setters as Setters
use Rattle.loss_controller.specs.Report as Report
use Rattle.loss_controller.specs.Result.{published, loss_based_result, average_reported_loss_ratio, num_observations}
use Rattle.loss_controller.specs.declared.LossController.{LossController}
use Rattle.history.specs.Calls.{Call}
use Rattle.history.specs.History.{History, fresh, switched, completed, with_running, with_report, heard, fed, after}
use Rattle.history.specs.WeighedPairs.{pairs, aged, weighed_lost, weighed_total, all_totals}
use Rattle.history.specs.Run.{step, next, told_of, left_of, all_told, left, told}
use Rattle.history.specs.Demand.{Demand, Demand3}
use Rattle.history.specs.Refusals.{check_report, check_call, refusal_of, Refusals2}
use Rattle.history.specs.Unreached.{BoundedRatio, RatioAtMostOne, outside_domain, Never6}
use Rattle.history.specs.Finite.{estimate_of, is_report, hands_finite, StaysFinite, most_bits, Limited, AtMost}
use Rattle.history.specs.Unrefused.{answers_of, without_refusals, without_refused, Unrefused1}

-- ---- laws on tests

holds : {a b : Bool} → a ≡ true → b ≡ true → a && b ≡ true
holds e f = rw e f

-- ---- `Demand`

near : Result Float Refusal → ℕ → ℕ → Bool
near (Err e) l t = false
near (Ok x) l t =
    plain x
    && (leb (num x * t * ratio_part) (l * den x * ratio_part + l * den x) && leb (l * den x * ratio_part) (num x * t * ratio_part + l * den x))

under : ℕ → ℕ → Float → Bool
under l t x = plain x && leb (num x * (20 * l) * ceiling_part) (2000000 * t * den x * (ceiling_part + 1) + num x * t * ceiling_part)

-- of the rate that is published, where one is
each : (Float → Bool) → Option Bitrate → Bool
each test None = true
each test (Some r) = test r.bps

-- the window has bytes, or packets
counts : Bool → History → Bool
counts use_bytes h = ltb 0 (all_totals (pairs use_bytes h))

-- 6 in 100 of them are lost at least
loses : Bool → History → Bool
loses use_bytes h = leb (6 * weighed_total use_bytes h) (100 * weighed_lost use_bytes h)

meets : Bool → LossController → History → Bool
meets use_bytes c h =
    let rate = (loss_based_result c).bandwidth_estimate in
    eqb (num_observations c) h.count
    && ((not (counts use_bytes h) || near (average_reported_loss_ratio c) (weighed_lost use_bytes h) (weighed_total use_bytes h))
    && (each plain rate
    && (not (counts use_bytes h) || (not (loses use_bytes h) || each (under (weighed_lost use_bytes h) (weighed_total use_bytes h)) rate))))

meets_true : (use_bytes : Bool) (c : LossController) (h : History) → Demand use_bytes c h → meets use_bytes c h ≡ true
unfolding meets counts loses near each under average_reported_loss_ratio loss_based_result
meets_true use_bytes c h d = search rules

-- ---- `Refusals`

-- whether each call of a list gets the number that the history gives it
judged : LossController → History → List Call → Bool
judged c h [] = true
judged c h (call ∷ calls) = eqb (number (step c call)) (refusal_of h call) && judged (next c call) (fed h (told_of c call)) calls

told_more : (c : LossController) (calls : List Call) (call : Call) → all_told c (calls ++ (call ∷ [])) ≡ all_told c calls ++ (told_of (left_of c calls) call ∷ [])
unfolding all_told
told_more c [] call = refl
told_more c (first ∷ calls) call = search (rules, told_more (next c first) calls call)

judged_true : Refusals2 → (use_bytes : Bool) (before calls : List Call) → judged (left use_bytes before) (after (told use_bytes before)) calls ≡ true
unfolding judged
judged_true r use_bytes before [] = refl
judged_true r use_bytes before (call ∷ calls) =
    let more = before ++ (call ∷ []) in
    let leaves : left use_bytes more ≡ next (left use_bytes before) call = search (rules, fold-append) in
    let hears : after (told use_bytes more) ≡ fed (after (told use_bytes before)) (told_of (left use_bytes before) call) =
    search (rules, told_more, fold-append) in
    search (rules, (r use_bytes before).each call, leaves, hears, judged_true r use_bytes more calls)

-- ---- `Unrefused`

-- the bits of the rate that is published, or a number that is no float's
reading : LossController → ℕ
reading c = go (loss_based_result c).bandwidth_estimate
  where
    go : Option Bitrate → ℕ
    go None = 0x10000000000000000
    go (Some r) = to_bits binary64 r.bps

-- of an answer, or beyond that the refusal's number
answer_reading : Result LossController Refusal → ℕ
answer_reading (Ok c) = reading c
answer_reading (Err e) = 0x10000000000000000 + code e

same : List (Result LossController Refusal) → List (Result LossController Refusal) → Bool
same [] [] = true
same [] (b ∷ bs) = false
same (a ∷ answers) [] = false
same (a ∷ answers) (b ∷ bs) = eqb (answer_reading a) (answer_reading b) && same answers bs

same_self : (answers : List (Result LossController Refusal)) → same answers answers ≡ true
unfolding same
same_self [] = refl
same_self (a ∷ answers) = search (rules, same_self answers)

-- whether each refused call of a list hands the controller back
hands_back : LossController → List Call → Bool
hands_back c [] = true
hands_back c (call ∷ calls) = (is_ok (step c call) || eqb (reading (next c call)) (reading c)) && hands_back (next c call) calls

traceless : LossController → List Call → Bool
traceless c calls =
    let without = without_refused c calls in
    hands_back c calls
    && (same (without_refusals (answers_of c calls)) (answers_of c without)
    && (list_all is_ok (answers_of c without) && eqb (reading (left_of c calls)) (reading (left_of c without))))

hands_back_true : Unrefused1 → (c : LossController) (calls : List Call) → hands_back c calls ≡ true
unfolding hands_back
hands_back_true u c [] = refl
hands_back_true u c (call ∷ calls) = search (rules, (u c).each call, hands_back_true u (next c call) calls)

traceless_true : Unrefused1 → (c : LossController) (calls : List Call) → traceless c calls ≡ true
unfolding traceless
traceless_true u c calls =
    let w = (u c).whole calls in search (rules, hands_back_true, same_self, list_all-from_AllPass, w.answers, w.none, w.leaves)

-- ---- `RatioAtMostOne` and `Never6`

bounded : Result Float Refusal → Bool
bounded (Err e) = false
bounded (Ok x) = plain x && leb (num x) (den x)

bounded_true : (ratio : Result Float Refusal) → BoundedRatio ratio → bounded ratio ≡ true
unfolding bounded
bounded_true ratio n = search rules

never : LossController → List Call → Bool
never c [] = true
never c (call ∷ calls) = not (eqb (number (step c call)) outside_domain) && never (next c call) calls

never_true : Never6 → (use_bytes : Bool) (before calls : List Call) → never (left use_bytes before) calls ≡ true
unfolding never
never_true n use_bytes before [] = refl
never_true n use_bytes before (call ∷ calls) =
    let more = before ++ (call ∷ []) in
    let leaves : left use_bytes more ≡ next (left use_bytes before) call = search (rules, fold-append) in
    search (rules, n, leaves, never_true n use_bytes more calls)

-- ---- `StaysFinite` and `AtMost`

stays : LossController → List Call → Bool
stays c later =
    not (finite (estimate_of c)) || (not (list_all is_report later || list_all hands_finite later) || finite (estimate_of (left_of c later)))

stays_true : StaysFinite → (use_bytes : Bool) (calls later : List Call) → stays (left use_bytes calls) later ≡ true
unfolding stays
stays_true s use_bytes calls later = search rules

unfoldable pub up_to_most : Float → Bool
up_to_most x = plain x && leb (num x) (most_bits * den x)

limited : LossController → Bool
limited c = (not (finite (estimate_of c)) || up_to_most (estimate_of c)) && each up_to_most (loss_based_result c).bandwidth_estimate

limited_true : (c : LossController) → Limited c → limited c ≡ true
unfolding limited each up_to_most loss_based_result
limited_true c l = search rules

-- ---- on a list, under both profiles, with every definition that it computes by

both : (Bool → Bool) → Bool
both test = test true && test false

-- `Demand3` and `Refusals2`, and what of the list they speak of: the count, and whether the window is lossy by bytes and by packets
pub record Outcome : Type 0 where
  pub met : Bool
  pub count : ℕ
  pub lossy : List Bool

unfoldable pub outcome : List Call → Outcome
unfolding both meets near under each counts loses judged check_call check_report step told_of all_told
    fed heard switched with_report completed with_running aged exact_sum
    Setters.check_rate Setters.check_start check_time Setters.set_bandwidth_estimate Setters.with_alr_start_time Setters.reset_observations
    Setters.set_alr_start_time Report.has_valid_estimate Report.observed Report.with_delay_based_estimate Report.reported Report.update_bandwidth_estimate
    published loss_based_result average_reported_loss_ratio check_columns packets check_packet add_packet summary_of updated
    Ratio.age Ratio.window Ratio.readable Ratio.average_reported_loss_ratio loss_ceiling Ratio.instant_limit Ratio.instant_upper_bound
    Ratio.valid_or_max Ratio.cached
    Window.cleared Window.reference Window.completes Window.full Window.observed Window.stored Window.with_ceiling Window.with_partial Window.renewed
    Window.completed Window.added at_most minimum sign_bit Rate.over Rate.smaller Size.float Delta.difference Delta.in_seconds Delta.order Delta.rate Time.since
    seconds weight loss_ratio add div eq in_float is_nan lt mul of_bits of_int sub to_bits
outcome calls =
    record {
      met = both (λ use_bytes. meets use_bytes (left use_bytes calls) (after (told use_bytes calls)) && judged (initial use_bytes) fresh calls);
      count = (after (told true calls)).count;
      lossy = map (λ use_bytes. let h = after (told use_bytes calls) in counts use_bytes h && loses use_bytes h) (true ∷ false ∷ []);
    }

pub outcome_met : Demand3 → Refusals2 → (calls : List Call) → (outcome calls).met ≡ true
unfolding outcome both
outcome_met d r calls = search (rules, meets_true, d, λ (use_bytes : Bool). judged_true r use_bytes [] calls)

-- `Unrefused1`
unfoldable pub untraced : List Call → Bool
unfolding outcome traceless hands_back same reading answer_reading answers_of without_refused
untraced calls = both (λ use_bytes. traceless (initial use_bytes) calls)

pub untraced_met : Unrefused1 → (calls : List Call) → untraced calls ≡ true
unfolding untraced both
untraced_met u calls = search (rules, traceless_true)

-- `RatioAtMostOne` and `Never6`
unfoldable pub unreached : List Call → Bool
unfolding outcome bounded never
unreached calls = both (λ use_bytes. bounded (average_reported_loss_ratio (left use_bytes calls)) && never (initial use_bytes) calls)

pub unreached_met : RatioAtMostOne → Never6 → (calls : List Call) → unreached calls ≡ true
unfolding unreached both
unreached_met r n calls = search (rules, bounded_true, r, λ (use_bytes : Bool). never_true n use_bytes [] calls)

-- `StaysFinite`, with the calls after which the estimate is asked again, and `AtMost`, after all of them
unfoldable pub unescaped : List Call → List Call → Bool
unfolding outcome stays limited up_to_most
unescaped calls later = both (λ use_bytes. stays (left use_bytes calls) later && limited (left use_bytes (calls ++ later)))

pub unescaped_met : StaysFinite → AtMost → (calls later : List Call) → unescaped calls later ≡ true
unfolding unescaped both
unescaped_met s m calls later = search (rules, stays_true, limited_true)

-- A report that is not refused has met no refused logarithm, whatever the controller: none of them is met and passed over. Assumes nothing.
use Rattle.std.proofs.Common.{◌≡◌, ℕ, true, false, List, T, IsOk, Ok, arith}
use lib.Dec.{eqb}
use lib.Ieee.Bits.{is_true}
use Rattle.refusal.proofs.Gives.{Gives, then_answered}
use Rattle.std.specs.List.{All}
use Rattle.std.proofs.lemmas.List.Elements.{All-weaker}
use Rattle.bandwidth.specs.declared.Bitrate.{Bitrate}
use Rattle.likelihood.specs.Newton.{newton}
use Rattle.likelihood.specs.declared.ChannelParameters.{ChannelParameters}
use Rattle.likelihood.proofs.Judged.{LogarithmsTaken, objective_logarithms}
use Rattle.packets.specs.Summary.{check_columns, summary_of}
use Rattle.packets.specs.declared.PacketResultsSummary.{PacketResultsSummary}
use Rattle.observation.specs.Ratio as Ratio
use Rattle.observation.specs.Rows as Rows
use Rattle.observation.specs.Window as Window
use Rattle.observation.specs.declared.Added.{Added}
use Rattle.candidates.specs.Candidate as Candidate
use Rattle.candidates.specs.Choice as Choice
use Rattle.candidates.proofs.Chosen.{ObjectiveTaken, choice_objectives}
use Rattle.loss_controller.specs.Report as Report
use Rattle.loss_controller.specs.Setters.{check_rate}
use Rattle.loss_controller.specs.declared.LossController.{LossController}

-- the logarithms of all candidates that c judges, each after its Newton step
abbrev pub AllLogarithmsTaken : LossController → Type 0
AllLogarithmsTaken c =
    let current = c.estimator.current_estimate in
    let offered = Candidate.candidates current (Report.bounds c) in
    Gives (Rows.rows c.observations)
    (λ rows. All (λ (p : ChannelParameters). LogarithmsTaken rows (newton rows p)) offered)

updated_logarithms : (c : LossController) → IsOk (Report.updated_estimator c) → AllLogarithmsTaken c
unfolding Report.updated_estimator
updated_logarithms c t =
    let current = c.estimator.current_estimate in
    let use_bytes = c.observations.use_byte_loss_ratio in
    let offered = Candidate.candidates current (Report.bounds c) in
    then_answered (Rows.rows c.observations) _ t (λ rows seen rest.
    then_answered (Ratio.average_reported_loss_ratio c.observations) _ rest (λ ratio known after.
    then_answered (Choice.choice use_bytes current offered rows ratio) _ after (λ best chosen end.
    let taken = choice_objectives use_bytes rows ratio current offered (rw chosen) in
    record { value = rows; is = seen; holds = All-weaker (ObjectiveTaken use_bytes rows ratio) _ (λ p. objective_logarithms use_bytes (newton rows p) rows ratio) offered taken })))

-- ---- the report

-- the controller that steps 3 to 5 start from: with the report's delay estimate and its packets
abbrev pub with_packets : LossController → Added → Bitrate → LossController
with_packets c a delay = record (Report.with_delay_based_estimate c delay) { observations = a.observations }

module _ (c : LossController) (s : PacketResultsSummary) (a : Added) (delay : Bitrate) (added : Window.added c.observations s ≡ Ok a)
    (complete : a.completed ≡ true) (valid : T (Report.has_valid_estimate (with_packets c a delay))) where
  some_packets : eqb s.num_packets 0 ≡ false
  unfolding Window.added
  some_packets = grind arith

  reported_logarithms : IsOk (Report.reported c s delay) → AllLogarithmsTaken (with_packets c a delay)
  unfolding Report.reported Report.observed
  reported_logarithms t =
      let new = with_packets c a delay in
      let updated = rw (some_packets, added, complete, is_true (Report.has_valid_estimate new) valid) at t in
      then_answered (Report.updated_estimator new) _ updated (λ e made end. updated_logarithms new (rw made))

-- where a report is not refused, and completes an observation while the estimate is finite
pub report_logarithms : (c : LossController) (times sizes flags : List ℕ) (delay : Bitrate) (s : PacketResultsSummary) (a : Added)
    → IsOk (Report.update_bandwidth_estimate c times sizes flags delay) → summary_of times sizes flags ≡ Ok s → Window.added c.observations s ≡ Ok a
    → a.completed ≡ true → T (Report.has_valid_estimate (with_packets c a delay)) → AllLogarithmsTaken (with_packets c a delay)
unfolding Report.update_bandwidth_estimate
report_logarithms c times sizes flags delay s a t summed added complete valid =
    then_answered (check_columns times sizes flags) _ t (λ columns even rest.
    then_answered (check_rate delay) _ rest (λ rate taken after.
    reported_logarithms c s a delay added complete valid (rw summed at after)))

-- The choice among the candidates is not refused, and the rate of what it chooses is not negative and at most 10^15. And where any choice is not
-- refused, no candidate's objective was. Assumes nothing.
use Rattle.std.proofs.Common.{◌≡◌, Bool, List, Result, Ok, Err, refl, rules}
use Rattle.std.specs.Result.{IsOk}
use lib.Ieee.{Float, lt}
use Rattle.refusal.specs.Outcome.{and_then, try_fold}
use Rattle.refusal.specs.declared.Refusal.{Refusal}
use Rattle.refusal.proofs.Gives.{Gives, gives, then_answered}
use Rattle.std.specs.List.{All}
use Rattle.float.proofs.Refusal.{either}
use Rattle.bandwidth.proofs.NotNegativeRate.{HoldsRate}
use Rattle.likelihood.specs.Newton.{newton}
use Rattle.likelihood.specs.Objective.{objective}
use Rattle.likelihood.specs.declared.ChannelParameters.{ChannelParameters}
use Rattle.likelihood.specs.declared.Row.{Row}
use Rattle.likelihood.proofs.Answered.{fold_gives, fold_answered}
use Rattle.likelihood.proofs.Judged.{SentRow, feasible_not_nan, objective_taken}
use Rattle.candidates.specs.Bound.{upper_bound}
use Rattle.candidates.specs.Candidate as Candidate
use Rattle.candidates.specs.Choice as Choice
use Rattle.candidates.specs.Choice.{Best}
use Rattle.candidates.specs.declared.Bounds.{Bounds}
use Rattle.candidates.proofs.Offered.{Fair, FairWhereFinite, candidates_fair}

abbrev Good : Best → Type 0
Good b = Fair b.best_candidate

module _ (use_bytes : Bool) (rows : List Row) (ratio : Float) (sent : All SentRow rows) where
  better_good : (b : Best) (p : ChannelParameters) → Good b → Fair p → Gives (Choice.better use_bytes rows ratio b p) Good
  unfolding Choice.better Choice.judged newton
  better_good b p g n = go (objective use_bytes rows ratio (newton rows p)) (objective_taken use_bytes (newton rows p) n.forward (feasible_not_nan _) rows ratio sent)
    where
      go : (o : Result Float Refusal) → IsOk o → Gives (and_then o (λ o. Ok (Choice.judged b (newton rows p) o))) Good
      go (Ok o) h = gives Good _ (either Good (lt b.objective_max o) _ b n g)
      go (Err e) h = search rules

-- both hold for rows of rates of binary64, where the current rate is not negative and at most 10^15, and the two estimates are so where they are
-- finite
pub chosen :
    (use_bytes : Bool) (current : ChannelParameters) (b : Bounds) (rows : List Row) (ratio : Float) →
    Fair current → FairWhereFinite b.delay_based_estimate → FairWhereFinite b.acknowledged_bitrate → HoldsRate (upper_bound b) →
    All SentRow rows →
    (best : ChannelParameters) × (Choice.choice use_bytes current (Candidate.candidates current b) rows ratio ≡ Ok best) × Fair best
unfolding Choice.choice
chosen use_bytes current b rows ratio n d a u sent =
    let best =
    fold_gives (Choice.better use_bytes rows ratio) Good (better_good use_bytes rows ratio sent) (Choice.start current) (Candidate.candidates current b) n (candidates_fair current b n d a u) in
    (best.value.best_candidate, rw best.is refl, best.holds)

-- where a choice, of whatever candidates, is not refused, no candidate's objective was
module _ (use_bytes : Bool) (rows : List Row) (ratio : Float) where
  abbrev pub ObjectiveTaken : ChannelParameters → Type 0
  ObjectiveTaken p = IsOk (objective use_bytes rows ratio (newton rows p))

  better_objective : (b : Best) (p : ChannelParameters) → IsOk (Choice.better use_bytes rows ratio b p) → ObjectiveTaken p
  unfolding Choice.better
  better_objective b p t = then_answered (objective use_bytes rows ratio (newton rows p)) _ t (λ o e rest. rw e)

  pub choice_objectives : (current : ChannelParameters) (candidates : List ChannelParameters) → IsOk (Choice.choice use_bytes current candidates rows ratio)
      → All ObjectiveTaken candidates
  unfolding Choice.choice
  choice_objectives current candidates t =
      then_answered (try_fold (Choice.better use_bytes rows ratio) (Choice.start current) candidates) _ t (λ best e rest.
      fold_answered (Choice.better use_bytes rows ratio) ObjectiveTaken better_objective (Choice.start current) candidates (rw e))

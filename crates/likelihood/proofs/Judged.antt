-- The objective of a candidate is not refused: of one whose rate is not negative and whose inherent loss is not NaN. And where any objective is not
-- refused, none of its logarithms was. Assumes nothing.
use Rattle.std.proofs.Common.{Bool, List, T, Result, refl}
use Rattle.std.specs.Result.{IsOk}
use Rattle.refusal.specs.declared.Refusal.{Refusal}
use Rattle.refusal.proofs.Gives.{ok_of_number, gives_ok, then_answered}
use Rattle.std.proofs.lemmas.Float.{T_from_true}
use lib.Ieee.{Float, eq, is_nan, of_bits}
use lib.Ieee.Bits.{is_true}
use lib.Ieee.Scale.{finite}
use Rattle.float.specs.Rounded.{bits, one, ◌⊕◌, ◌⊖◌}
use Rattle.std.specs.List.{All}
use Rattle.float.proofs.Extremes.{minimum_by}
use Rattle.float.proofs.NotNan.{NotNan}
use Rattle.float.proofs.Refusal.{either, tested}
use Rattle.bandwidth.specs.declared.Bitrate.{Bitrate}
use Rattle.bandwidth.proofs.NotNegativeRate.{HoldsRate, NotNegativeRate}
use Rattle.logarithm.specs.Ln.{logarithm}
use Rattle.logarithm.proofs.Logarithms.{one_more}
use Rattle.likelihood.specs.Bias.{bias}
use Rattle.likelihood.specs.Feasible.{upper_bound, feasible}
use Rattle.likelihood.specs.Objective.{terms, add_terms, objective}
use Rattle.likelihood.specs.Probability.{row_probability}
use Rattle.likelihood.specs.declared.ChannelParameters.{ChannelParameters}
use Rattle.likelihood.specs.declared.Row.{Row}
use Rattle.likelihood.proofs.Answered.{fold_gives, fold_answered}
use Rattle.likelihood.proofs.Probable.{Probable, probability_probable}

-- a feasible inherent loss is not NaN, whatever the parameters
pub feasible_not_nan : (c : ChannelParameters) → NotNan (feasible c)
unfolding feasible upper_bound is_nan of_bits
feasible_not_nan c =
    minimum_by NotNan _ (upper_bound c.loss_limited_bandwidth) (λ h. h)
    (either NotNan (eq c.loss_limited_bandwidth.bps _) _ _ refl (minimum_by NotNan _ _ (λ h. h) refl))

abbrev Taken : Result Float Refusal → Type 0
Taken a = IsOk a

-- the bias of a rate that is not negative
bias_taken : (r : Bitrate) (ratio : Float) → NotNegativeRate r → Taken (bias r ratio)
unfolding bias
bias_taken r ratio n =
    tested Taken (finite r.bps) (λ f. rw (gives_ok _ (ok_of_number _ (one_more r.bps n (T_from_true _ f)))).is refl) (λ f. refl)

-- the rate at which a row's packets were sent is one of binary64
abbrev pub SentRow : Row → Type 0
SentRow row = HoldsRate row.sending_rate

module _ (use_bytes : Bool) (c : ChannelParameters) (n : NotNegativeRate c.loss_limited_bandwidth) (i : NotNan c.inherent_loss) where
  terms_taken : (b o : Float) (row : Row) → SentRow row → Taken (add_terms use_bytes c b o row)
  unfolding add_terms terms
  terms_taken b o row sent =
      let p : Probable (row_probability c row) = probability_probable c.inherent_loss c.loss_limited_bandwidth row.sending_rate i n.above sent in
      tested Taken row.is_initialized (λ there. rw ((gives_ok _ p.lost).is, (gives_ok _ p.received).is) refl) (λ there. refl)

  -- over any rows that were sent at rates of binary64, no logarithm is refused
  pub objective_taken : (rows : List Row) (ratio : Float) → All SentRow rows → IsOk (objective use_bytes rows ratio c)
  unfolding objective
  objective_taken rows ratio sent =
      let bias = gives_ok _ (bias_taken c.loss_limited_bandwidth ratio n) in
      let sum =
      fold_gives (add_terms use_bytes c bias.value) (λ o. Unit {0}) (λ o row any sent. gives_ok _ (terms_taken bias.value o row sent)) (bits 0) rows tt sent in
      rw (bias.is, sum.is) refl

-- ---- what an objective has asked

-- the loss probability of a row in use, and its complement, have logarithms
abbrev pub RowTaken : ChannelParameters → Row → Type 0
RowTaken c row = T row.is_initialized → Probable (row_probability c row)

-- the logarithms of an objective, none refused: of 1 + rate, where the rate is finite, and of each row in use
pub record LogarithmsTaken (rows : List Row) (c : ChannelParameters) : Type 0 where
  pub rate : T (finite c.loss_limited_bandwidth.bps) → IsOk (logarithm (one ⊕ c.loss_limited_bandwidth.bps))
  pub each : All (RowTaken c) rows

module _ (use_bytes : Bool) (c : ChannelParameters) where
  bias_logarithm : (ratio : Float) → IsOk (bias c.loss_limited_bandwidth ratio) → T (finite c.loss_limited_bandwidth.bps)
      → IsOk (logarithm (one ⊕ c.loss_limited_bandwidth.bps))
  unfolding bias
  bias_logarithm ratio t f =
      let x = c.loss_limited_bandwidth.bps in
      then_answered (logarithm (one ⊕ x)) _ (rw (is_true (finite x) f) at t) (λ ln e rest. rw e)

  terms_logarithms : (b o : Float) (row : Row) → IsOk (add_terms use_bytes c b o row) → RowTaken c row
  unfolding add_terms terms
  terms_logarithms b o row t there =
      let p = row_probability c row in
      then_answered (logarithm p) _ (rw (is_true row.is_initialized there) at t) (λ ln_lost e rest.
      then_answered (logarithm (one ⊖ p)) _ rest (λ ln_received g end. record { lost = rw e; received = rw g }))

  pub objective_logarithms : (rows : List Row) (ratio : Float) → IsOk (objective use_bytes rows ratio c) → LogarithmsTaken rows c
  unfolding objective
  objective_logarithms rows ratio t =
      then_answered (bias c.loss_limited_bandwidth ratio) _ t (λ b e rest. record {
        rate = bias_logarithm ratio (rw e);
        each = fold_answered (add_terms use_bytes c b) (RowTaken c) (terms_logarithms b) (bits 0) rows rest;
      })

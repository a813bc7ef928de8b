-- A candidate's objective: get_objective. Definitions only.
use Rattle.std.specs.Prelude.{Bool, if◌then◌else◌, List, Float, Result, Ok}
use Rattle.refusal.specs.Outcome.{and_then, try_fold}
use Rattle.refusal.specs.declared.Refusal.{Refusal}
use Rattle.float.specs.Rounded.{bits, one, thousand, ◌⊕◌, ◌⊖◌, ◌⊗◌, ◌⊘◌}
use Rattle.logarithm.specs.Ln.{logarithm}
use Rattle.likelihood.specs.Probability.{row_probability}
use Rattle.likelihood.specs.Bias.{bias}
use Rattle.likelihood.specs.declared.ChannelParameters.{ChannelParameters}
use Rattle.likelihood.specs.declared.Row.{Row}

-- o with a row's two terms, one after the other: the log-likelihood where its loss probability has these two logarithms, weighted, and its part of the
-- bias b; by bytes each count is divided by 1000.0, by packets there is none to divide (Q-7)
unfoldable pub with_terms : Bool → Row → Float → Float → Float → Float → Float
with_terms use_bytes row b ln_lost ln_received o =
    if use_bytes
    then o ⊕ row.weight ⊗ (row.lost ⊘ thousand ⊗ ln_lost ⊕ row.received ⊘ thousand ⊗ ln_received) ⊕ row.weight ⊗ b ⊗ row.total ⊘ thousand
    else o ⊕ row.weight ⊗ (row.lost ⊗ ln_lost ⊕ row.received ⊗ ln_received) ⊕ row.weight ⊗ b ⊗ row.total

-- the same of a row at a candidate, whose loss probability gives the logarithms
unfoldable pub terms : Bool → ChannelParameters → Float → Row → Float → Result Float Refusal
terms use_bytes c b row o =
    let p = row_probability c row in
    and_then (logarithm p) (λ ln_lost.
    and_then (logarithm (one ⊖ p)) (λ ln_received.
    Ok (with_terms use_bytes row b ln_lost ln_received o)))

-- a row's terms, where it is initialized
unfoldable pub add_terms : Bool → ChannelParameters → Float → Float → Row → Result Float Refusal
add_terms use_bytes c b o row = if row.is_initialized then terms use_bytes c b row o else Ok o

-- the bias first, then the rows in slot order, from 0.0; the first logarithm that is refused refuses it
unfoldable pub objective : Bool → List Row → Float → ChannelParameters → Result Float Refusal
objective use_bytes rows ratio c =
    and_then (bias c.loss_limited_bandwidth ratio) (λ b.
    try_fold (add_terms use_bytes c b) (bits 0) rows)

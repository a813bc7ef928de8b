-- The choice among the candidates ("One report, in order", 4). Definitions only.
use Rattle.std.specs.Prelude.{Bool, if◌then◌else◌, List, Float, Result, Ok}
use Rattle.std.specs.Float.Ieee.{lt}
use Rattle.refusal.specs.Outcome.{and_then, try_fold}
use Rattle.refusal.specs.declared.Refusal.{Refusal}
use Rattle.float.specs.Rounded.{bits}
use Rattle.likelihood.specs.Newton.{newton}
use Rattle.likelihood.specs.Objective.{objective}
use Rattle.likelihood.specs.declared.ChannelParameters.{ChannelParameters}
use Rattle.likelihood.specs.declared.Row.{Row}

-- the greatest objective so far, and its candidate
pub record Best : Type 0 where
  pub objective_max : Float
  pub best_candidate : ChannelParameters

-- the current parameters, until an objective exceeds f64::MIN
abbrev pub start : ChannelParameters → Best
start current = record { objective_max = bits 0xFFEFFFFFFFFFFFFF; best_candidate = current }

-- "Equal objectives: the earlier candidate stays"; a NaN exceeds nothing
unfoldable pub judged : Best → ChannelParameters → Float → Best
judged b p o = if lt b.objective_max o then record { objective_max = o; best_candidate = p } else b

-- one Newton step, then the objective, by the profile's measure
unfoldable pub better : Bool → List Row → Float → Best → ChannelParameters → Result Best Refusal
better use_bytes rows ratio b p =
    let stepped = newton rows p in
    and_then (objective use_bytes rows ratio stepped) (λ o. Ok (judged b stepped o))

-- the candidates in order, until an objective is refused (update_bandwidth_estimate)
unfoldable pub choice : Bool → ChannelParameters → List ChannelParameters → List Row → Float → Result ChannelParameters Refusal
choice use_bytes current candidates rows ratio =
    and_then (try_fold (better use_bytes rows ratio) (start current) candidates) (λ b.
    Ok b.best_candidate)

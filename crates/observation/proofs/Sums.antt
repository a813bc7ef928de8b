-- The loop over the slots adds up what the loss ratio of the window's observations does. Assumes nothing.
use Rattle.std.proofs.Common.{◌≡◌, ℕ, Bool, cond, List, [], ◌∷◌, Result, Ok, Err, refl, arith}
use mathlib.Core.List.{foldl}
use lib.Ieee.{Float, eq}
use Rattle.refusal.specs.Outcome.{and_then, try_fold}
use Rattle.refusal.specs.declared.Refusal.{Refusal}
use Rattle.refusal.specs.declared.Refusal.TheVariants.{Arithmetic}
use Rattle.float.specs.Rounded.{◌⊘◌, bits}
use Rattle.rounding.specs.Exact.{Measured}
use Rattle.rounding.specs.Ratio.{add_weighted, loss_ratio}
use Rattle.observation.specs.Ratio.{measured, window, readable, average_reported_loss_ratio}
use Rattle.observation.specs.Steps.{total_and_lost, summed}
use Rattle.observation.specs.declared.Observation.{Observation}
use Rattle.observation.specs.declared.Observations.{Observations}

-- what the loop makes of the slots, from sums so far
abbrev ends : Bool → ℕ → Float × Float → List Observation → Result (Float × Float) Refusal
ends use_bytes count s os =
    let w = window use_bytes count os in
    cond (readable use_bytes os)
    (Ok (foldl (add_weighted (λ (m : Measured). m.total)) s.0 w, foldl (add_weighted (λ (m : Measured). m.lost)) s.1 w)) (Err Arithmetic)

-- its two sums with a slot's
abbrev sums_with : Bool → ℕ → Float × Float → Observation → Float × Float
sums_with use_bytes count s o =
    let m = measured use_bytes count o in
    (add_weighted (λ (m : Measured). m.total) s.0 m, add_weighted (λ (m : Measured). m.lost) s.1 m)

sums_end : (use_bytes : Bool) (count : ℕ) (s : Float × Float) (os : List Observation)
    → try_fold (summed use_bytes count) s os ≡ ends use_bytes count s os
unfolding summed total_and_lost window readable
sums_end use_bytes count s [] = refl
sums_end use_bytes count s (o ∷ os) = grind (arith, sums_end use_bytes count (sums_with use_bytes count s o) os, sums_end use_bytes count s os)

-- what the loop's sums say of the ratio
pub ratio_is : (o : Observations)
    → average_reported_loss_ratio o
    ≡ and_then (try_fold (summed o.use_byte_loss_ratio o.num_observations) (bits 0, bits 0) o.observations)
    (λ s. Ok (cond (eq s.0 (bits 0)) (bits 0) (s.1 ⊘ s.0)))
unfolding average_reported_loss_ratio loss_ratio
ratio_is o = grind (arith, sums_end o.use_byte_loss_ratio o.num_observations (bits 0, bits 0) o.observations)

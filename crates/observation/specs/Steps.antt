-- What the loops' invariants and private functions say, for one slot. It serves proofs: no reader needs it. Definitions only.
use Rattle.std.specs.Prelude.{ℕ, Bool, true, if◌then◌else◌, pos, ◌-ℤ◌, Float, Result, Ok, Err}
use Rattle.refusal.specs.Outcome.{and_then}
use Rattle.refusal.specs.declared.Refusal.{Refusal}
use Rattle.refusal.specs.declared.Refusal.TheVariants.{Arithmetic}
use Rattle.float.specs.Rounded.{◌⊕◌, ◌⊗◌}
use Rattle.logarithm.specs.Power.{weight}
use Rattle.likelihood.specs.declared.Row.{Row}
use Rattle.observation.specs.Ratio.{age, total_of, lost_of, floats, legible}
use Rattle.observation.specs.Rows as Rows
use Rattle.observation.specs.declared.Observation.{Observation}

-- ---- the loop of average_reported_loss_ratio

-- an observation's total and its lost part as floats, refused where a size of the two goes to none
unfoldable pub total_and_lost : Bool → Observation → Result (Float × Float) Refusal
total_and_lost use_bytes o =
    if floats use_bytes o then Ok (Rows.nearest (total_of use_bytes o), Rows.nearest (lost_of use_bytes o)) else Err Arithmetic

-- one slot more in its two sums, the total and the lost
unfoldable pub summed : Bool → ℕ → Float × Float → Observation → Result (Float × Float) Refusal
summed use_bytes count s o =
    let w = weight (age count o.id) in
    if o.is_initialized then and_then (total_and_lost use_bytes o) (λ t. Ok (s.0 ⊕ w ⊗ t.0, s.1 ⊕ w ⊗ t.1)) else Ok s

-- ---- the loop of the rows

-- refused where an initialised slot has a size that goes to no float
unfoldable pub row : Bool → ℕ → Observation → Result Row Refusal
row use_bytes count o = if legible use_bytes o then Ok (Rows.row_of use_bytes count o) else Err Arithmetic

-- its kB by bytes: lost, received and total
unfoldable pub kilobytes : Observation → Result (Float × Float × Float) Refusal
kilobytes o =
    if floats true o
    then Ok (Rows.kilobytes (pos o.lost_size), Rows.kilobytes (pos o.size -ℤ pos o.lost_size), Rows.kilobytes (pos o.size))
    else Err Arithmetic

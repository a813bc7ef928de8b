-- The state of the loss controller. Definitions only.
use Rattle.std.specs.Prelude.{ℕ, Bool, true, false}
use Rattle.estimator.specs.declared.LossControllerState.{LossControllerState}
use Rattle.estimator.specs.declared.LossControllerState.TheVariants.{Increasing, Decreasing, DelayBased}

-- "state (2: 0 DelayBased, 1 Increasing, 2 Decreasing)" ("Call lists")
abbrev pub number : LossControllerState → ℕ
number Increasing = 1
number Decreasing = 2
number DelayBased = 0

-- self.state != DelayBased (is_bandwidth_limited_due_to_loss)
abbrev pub is_limited_due_to_loss : LossControllerState → Bool
is_limited_due_to_loss Increasing = true
is_limited_due_to_loss Decreasing = true
is_limited_due_to_loss DelayBased = false

-- self.state == Increasing
abbrev pub is_increasing : LossControllerState → Bool
is_increasing Increasing = true
is_increasing Decreasing = false
is_increasing DelayBased = false

-- self.state == Decreasing
abbrev pub is_decreasing : LossControllerState → Bool
is_decreasing Increasing = false
is_decreasing Decreasing = true
is_decreasing DelayBased = false

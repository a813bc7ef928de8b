-- `observation::Observations::rows` meets its contract. The loop's invariant: the slots so far are readable, and their rows are made. Assumes nothing.
use Rattle.std.proofs.Common.{◌≡◌, true, map, length, take}
use Rattle.std.specs.List.{list_all}
use Rattle.observation.specs.Ratio.{legible}
use Rattle.observation.specs.Rows.{row_of}
use Rattle.observation.proofs.Observations.rows.Given as goal

abbrev pub invariant-loop-slot : goal.invariant-loop-slot
invariant-loop-slot l =
    let o = l.fn.self in
    (length l.rows ≡ 15)
    × (list_all (legible o.use_byte_loss_ratio) (take l.slot o.observations) ≡ true)
    × (take l.slot l.rows ≡ map (row_of o.use_byte_loss_ratio o.num_observations) (take l.slot o.observations))

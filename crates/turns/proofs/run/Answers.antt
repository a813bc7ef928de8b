-- A write failed in the turn of a chunk.
use Rattle.std.proofs.Common.{arith}
use Rattle.std.proofs.lemmas.Grind.{common_steps}
use Rattle.turns.proofs.run.Goals as goal

pub returns-in_err-map_err : goal.returns-in_err-map_err
returns-in_err-map_err g c start = let so_far = c.loop.invariant.so_far start in grind (arith, common_steps)

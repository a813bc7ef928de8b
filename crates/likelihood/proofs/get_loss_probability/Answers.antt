-- `get_loss_probability` meets its contract. Assumes nothing.
use Rattle.std.specs.Float.Ieee.{le, sub, of_bits}
use Rattle.likelihood.proofs.get_loss_probability.Goals as goal

pub clamp-requires : goal.clamp-requires
unfolding le sub of_bits
clamp-requires c = tt

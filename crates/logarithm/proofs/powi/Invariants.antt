-- `powi` meets its contract. The loop's invariant: what is left of the steps leads to the power. The measure is n. Assumes nothing.
use Rattle.logarithm.specs.Power.{power}
use Rattle.logarithm.proofs.Steps.{Leads}
use Rattle.logarithm.proofs.powi.Given as goal

abbrev pub invariant-loop-n : goal.invariant-loop-n
invariant-loop-n l = Leads l.answer l.base l.n (power l.fn.base l.fn.n)

abbrev pub decreases-loop-n : goal.decreases-loop-n
decreases-loop-n l = l.n

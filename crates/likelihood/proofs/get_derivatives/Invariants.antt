-- `get_derivatives` meets its contract. The loop's invariant: what is left of the rows, added to the sums so far, gives the whole sums.
-- Assumes nothing.
use Rattle.std.proofs.Common.{◌≡◌, drop}
use mathlib.Core.List.{foldl}
use Rattle.likelihood.specs.Newton.{add_derivatives}
use Rattle.likelihood.proofs.get_derivatives.Given as goal

abbrev pub invariant-loop-row : goal.invariant-loop-row
invariant-loop-row l =
    foldl (add_derivatives l.channel_parameters) l.derivatives (drop l.row-index l.row-items) ≡ foldl (add_derivatives l.channel_parameters) l.initial.derivatives l.row-items

-- `write_line` meets its contract: column by column, and then the newline. Assumes nothing.
use Rattle.std.proofs.Common.{◌≡◌, length}
use Rattle.call_line.specs.Column.{start}
use Rattle.call_line.specs.Line.{wide, values_of}
use Rattle.call_line.proofs.Written.{FirstColumns}
use Rattle.call_line.proofs.write_line.Given as goal

abbrev pub invariant-loop-width : goal.invariant-loop-width
invariant-loop-width l =
    (l.from ≡ start wide (length l.yielded)) × (length l.out ≡ length l.initial.out) × FirstColumns l.initial.out (values_of l.fn.call) l.out (length l.yielded)

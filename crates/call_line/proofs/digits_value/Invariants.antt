-- `digits_value` meets its contract: the number so far, and the digits ahead, are all. Assumes nothing.
use Rattle.std.proofs.Common.{◌≡◌, ◌^◌, ◌<◌, ◌++◌, drop}
use Rattle.call_line.specs.Column.{more}
use Rattle.call_line.proofs.digits_value.Given as goal

abbrev pub invariant-loop-byte : goal.invariant-loop-byte
invariant-loop-byte l =
    (l.value < 10 ^ l.byte-index) × (more 0 l.digits ≡ more l.value (drop l.byte-index l.first ++ l.rest))

abbrev pub invariant-loop-byte-2 : goal.invariant-loop-byte-2
invariant-loop-byte-2 l = more 0 l.digits ≡ more l.value (drop l.byte-index l.rest)

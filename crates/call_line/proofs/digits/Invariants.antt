-- `digits` meets its contract: the digits so far, what is left of the number, and that the table holds the powers. Assumes nothing.
use Rattle.std.proofs.Common.{◌≡◌, ◌-◌, ◌%◌, ◌^◌, length, take}
use Rattle.call_line.specs.Digits.{last_digits}
use Rattle.call_line.proofs.Writing.{powers}
use Rattle.call_line.proofs.digits.Given as goal

abbrev pub invariant-loop-k : goal.invariant-loop-k
invariant-loop-k l =
    (l.rest ≡ l.n % 10 ^ (20 - l.k)) × (length l.digits ≡ 20) × (take l.k l.digits ≡ take l.k (last_digits 20 l.n)) × (l.powers ≡ powers)

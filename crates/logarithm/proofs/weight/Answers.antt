-- antt computes that the table is the fifteen powers. Assumes nothing.
use Rattle.std.proofs.Common.{◌≡◌, ℕ, Bool, true, false, cond, map, get_or, refl, ◌∙◌, zero-add, le_refl, ltb-false}
use Rattle.std.proofs.lemmas.Bool.{ltb-true}
use Rattle.std.proofs.lemmas.List.{get_or_past}
use Rattle.std.proofs.lemmas.List.FromFn.{get_or-map-range_with_len}
use Rattle.std.specs.Float.Ieee.{mul, of_bits}
use Rattle.std.specs.List.{range_with_len}
use Rattle.std.specs.Prelude.{nat_lt}
use Rattle.float.specs.Rounded.{bits}
use Rattle.logarithm.specs.Power.{ninetenths, power, weight}
use Rattle.logarithm.proofs.weight.Goals as goal

-- the entry at an age, or 0.0 past the end
entry : (age : ℕ) (held : Bool) → nat_lt age 15 ≡ held → get_or (map (power ninetenths) (range_with_len 0 15)) age (bits 0) ≡ cond held (power ninetenths age) (bits 0)
entry age true h = get_or-map-range_with_len (power ninetenths) 0 15 age age (bits 0) (ltb-true age 15 h) (zero-add age)
entry age false h = get_or_past (map (power ninetenths) (range_with_len 0 15)) age (bits 0) (ltb-false age 15 h)

pub returns : goal.returns
unfolding weight power mul of_bits
returns c = rw (c.unwrap_or.ensures, c.copied.ensures) (c.get.ensures.lookup.4 (le_refl _) (bits 0) ∙ entry c.args.age (nat_lt c.args.age 15) refl)

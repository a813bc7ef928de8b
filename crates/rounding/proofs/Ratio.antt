-- The loss ratio of a sound window of at most fifteen observations: within r/2^46 of r, and never above 1. Assumes nothing.
use Rattle.std.proofs.Common.{rules}
use mathlib.Core.Path.{◌≡◌}
use mathlib.Core.Logic.{inl, inr}
use mathlib.Core.List.{List}
use Prim.Native.Nat.{◌^◌, ◌≤◌, ◌<◌}
use native.Mathlib.Nat.{le_trans, mul-le-mul_right, eq-zero-or-pos}
use native.Mathlib.Omega.{arith}
use borrow.Author.Tests.{eq-eqb, ne_eqb}
use lib.Dec.{lit≤, lit<}
use lib.ListN.{length}
use lib.Ieee.{of_bits}
use lib.Ieee.Positive.{num}
use Rattle.float.specs.Rounded.{◌⊘◌, bits}
use Rattle.std.specs.List.{All}
use Rattle.rounding.specs.Exact.{Measured, Sound, exact_total, exact_lost, ratio_part, Close, AtMostOne}
use Rattle.rounding.specs.Ratio.{float_total, float_lost, loss_ratio}
use Rattle.rounding.proofs.Parts.{within_share}
use Rattle.rounding.proofs.Round.{Near, ranged}
use Rattle.rounding.proofs.Operations.{eq_zero}
use Rattle.rounding.proofs.Near.{near_more, near_terms, near_pos, near_zero, div_near}
use Rattle.rounding.proofs.Order.{div_at_most_one}
use Rattle.rounding.proofs.Sums.{Sums, window_sums}

module _ (os : List Measured) (sound : All Sound os) (short : length os ≤ 15) where
  sums : Sums (length os) (float_lost os) (float_total os) (exact_lost os) (exact_total os)
  sums = search (rules, window_sums)

  -- 23 parts: 8 of a term, 15 of the additions
  pub lost_near : Near 23 (float_lost os) (exact_lost os) (10 ^ 14)
  lost_near = near_more (omega arith) sums.lost

  pub total_near : Near 23 (float_total os) (exact_total os) (10 ^ 14)
  total_near = near_more (omega arith) sums.total

  pub lost_part : exact_lost os ≤ exact_total os
  lost_part = search (rules, sums)

  pub total_bounded : exact_total os ≤ 10 ^ 28
  total_bounded = grind (arith, sums, mul-le-mul_right)

  -- without a total the ratio is 0.0
  pub ratio_none : exact_total os ≡ 0 → loss_ratio os ≡ bits 0
  unfolding loss_ratio
  ratio_none none = search (rules, near_zero, lit≤, total_near, eq_zero, eq-eqb)

  module _ (some : 0 < exact_total os) where
    total_pos : 0 < num (float_total os)
    total_pos = search (rules, near_pos, lit≤, total_near)

    ratio_is : loss_ratio os ≡ float_lost os ⊘ float_total os
    unfolding loss_ratio
    ratio_is = grind (arith, eq_zero, total_near, ne_eqb, total_pos)

    -- The error budget: 47 parts in 2 ^ 53, of the 128 that r / 2 ^ 46 allows (127 compounded, `within_share`). Each sum has 23, that is
    -- 7 of a weight, 1 of its product and 15 of the additions; the division adds the two sums' and 1 of its own
    pub ratio_near : Near 47 (loss_ratio os) (exact_lost os) (exact_total os)
    ratio_near =
        let l = le_trans (mul-le-mul_right (10 ^ 14) (le_trans lost_part total_bounded)) (lit≤ tt) in
        let t = le_trans (mul-le-mul_right (10 ^ 14) total_bounded) (lit≤ tt) in
        rw ratio_is (near_terms some (omega arith) (div_near (lit≤ tt) some (ranged (omega arith) l t) lost_near total_near))

    -- the ratio is within r/2^46 of r, finite with its sign clear
    pub ratio_close : Close (loss_ratio os) (exact_lost os) (exact_total os)
    ratio_close =
        let s = within_share ratio_part (lit< tt) (lit≤ tt) ratio_near.parts in
        record { plainly = ratio_near.plainly; above = omega (arith, s.above); below = omega (arith, s.below) }

  -- the ratio is 1 at most, whatever the total
  pub ratio_at_most_one : AtMostOne (loss_ratio os)
  ratio_at_most_one = elim (eq-zero-or-pos (exact_total os)) [
    | inl none ↦ rw (ratio_none none) (unfold of_bits in record { plainly = tt; below = lit≤ tt })
    | inr some ↦ let p = (ratio_near some).plainly in rw (ratio_is some) (div_at_most_one sums.order (total_pos some) (rw (ratio_is some) at p))
  ]

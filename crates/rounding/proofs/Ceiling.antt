-- The ceiling 100,000 / (ratio - 0.05) where r is at least 0.06: within one part in 2^40 of the exact one. Assumes nothing.
use Rattle.std.proofs.Common.{rules}
use mathlib.Core.Path.{◌≡◌, ap}
use mathlib.Core.Bool.{true, false}
use mathlib.Core.List.{List}
use Prim.Native.Nat.{ℕ, ◌+◌, ◌-◌, ◌*◌, ◌^◌, ◌≤◌, ◌<◌}
use native.Mathlib.Nat.{le_trans, mul-le-mul_right, le_of_mul-le-mul_right, sub-add_cancel}
use native.Mathlib.Omega.{arith}
use borrow.Author.Tests.{ne_eqb}
use lib.Dec.{T, lit≤, lit<}
use lib.ListN.{length}
use lib.Ieee.{Float, eq, lt, of_bits}
use lib.Ieee.Positive.{num, den, den_pos}
use Rattle.float.specs.Rounded.{◌⊖◌, bits}
use Rattle.std.specs.List.{All}
use Rattle.bandwidth.specs.Rate as Rate
use Rattle.config.specs.Config as Config
use Rattle.rounding.specs.Exact.{Measured, Sound, exact_total, exact_lost, ceiling_part, UnderCeiling}
use Rattle.rounding.specs.Plain.{plain}
use Rattle.rounding.specs.Ratio.{loss_ratio, loss_ceiling}
use Rattle.rounding.proofs.Parts.{within_share}
use Rattle.rounding.proofs.Round.{Near, ranged}
use Rattle.rounding.proofs.Operations.{eq_zero}
use Rattle.rounding.proofs.Near.{near_more, near_terms, near_pos, near_exact, near_test, div_near, Cancels, sub_near, near_lt}
use Rattle.rounding.proofs.Order.{Under}
use Rattle.rounding.proofs.Ratio.{lost_part, total_bounded, ratio_near}

abbrev loss_offset : Float
loss_offset = Config.instant_upper_bound_loss_offset

offset_near : Near 1 loss_offset 1 20
unfolding of_bits near_test
offset_near = search rules

balance_near : Near 0 (Config.instant_upper_bound_bandwidth_balance).bps 100000 1
unfolding of_bits
balance_near = search (rules, near_exact, lit<)

-- r is 6 times r - 1/20 at most: 47 parts of it are less than 1 / 2 ^ 47, and 769 parts of the difference
cancels : Cancels 47 6 (2 ^ 47) 769
cancels = search rules

-- x is under the ceiling, and no more below it than it may be above
pub record Capped (x : Float) (l t : ℕ) : Type 0 where
  pub plainly : T (plain x)
  pub above : UnderCeiling x l t
  pub below : 2000000 * t * den x * ceiling_part + num x * t * ceiling_part ≤ num x * (20 * l) * ceiling_part + 2000000 * t * den x

-- What a ratio x near l / t sets: the branch for a ratio above 0.05 is taken, and its rate is within one part in 2^40 of the exact ceiling
pub record SetsCeiling (x : Float) (l t : ℕ) : Type 0 where
  pub taken : lt Config.instant_upper_bound_loss_offset x ≡ true
  pub capped : Capped (loss_ceiling x) l t

-- ---- any float x that is 47 parts from l / t, for l / t from 0.06 to 1 and d = 20 l - t, of which 20 l is 6 times as much at most
module _ {x : Float} {l t : ℕ} (near : Near 47 x l t) (part : l ≤ t) (most : t ≤ 10 ^ 28) (six : 6 * t ≤ 100 * l) (d : ℕ) (e : d + t ≡ 20 * l) where
  some : 0 < d
  some = search rules

  fifth : 20 * l ≤ 6 * d
  fifth = search rules

  twenty : Near 47 x (20 * l) (20 * t)
  twenty = search (rules, near_terms)

  twentieth : Near 47 loss_offset t (20 * t)
  twentieth = near_terms (omega (arith, near.divisor)) (omega arith) (near_more (lit≤ tt) offset_near)

  difference_near : Near 770 (x ⊖ loss_offset) d (20 * t)
  difference_near =
      let range = ranged twenty.divisor (le_trans {m = 10 ^ 30} (omega arith) (lit≤ tt)) (le_trans {m = 10 ^ 30} (omega arith) (lit≤ tt)) in
      sub_near cancels d e fifth twenty twentieth range

  -- 771 of the 8191 parts that make one in 2 ^ 40
  ceiling_near : Near 771 (loss_ceiling x) (100000 * (20 * t)) (d * 1)
  unfolding loss_ceiling Rate.over
  ceiling_near =
      let y = x ⊖ loss_offset in
      let D : 0 < num y = near_pos (lit≤ tt) some difference_near in
      let divisor : eq y (bits 0) ≡ false = rw (eq_zero y difference_near.plainly) (ne_eqb (num y) 0 (λ z. omega arith)) in
      let range = ranged (omega (arith, some)) (le_trans {m = 10 ^ 36} (omega arith) (lit≤ tt)) (le_trans {m = 10 ^ 30} (omega arith) (lit≤ tt)) in
      rw (divisor, loss_ceiling, Rate.over) (div_near (lit≤ tt) some range balance_near difference_near)

  sets_ceiling : SetsCeiling x l t
  sets_ceiling =
      let c = loss_ceiling x in
      let s = within_share ceiling_part (lit< tt) (lit≤ tt) ceiling_near.parts in
      let m : num c * (d + t) ≡ num c * (20 * l) = rw e in
      record {
        taken = near_lt cancels d e fifth twenty twentieth some;
        capped = record { plainly = ceiling_near.plainly; above = omega (arith, s.above); below = omega (arith, s.below) };
      }

-- ---- the ratio of a sound window of at most fifteen observations with r at least 0.06 sets a ceiling
pub ratio_sets_ceiling : (os : List Measured) → All Sound os → length os ≤ 15 → 0 < exact_total os → 6 * exact_total os ≤ 100 * exact_lost os
    → SetsCeiling (loss_ratio os) (exact_lost os) (exact_total os)
ratio_sets_ceiling os sound short some six =
    sets_ceiling (ratio_near os sound short some) (lost_part os sound short) (total_bounded os sound short) six (20 * exact_lost os - exact_total os)
    (omega arith)

-- ---- a rate that is no more than one under the ceiling is under it
pub under_ceiling : {x y : Float} (l t : ℕ) → t ≤ 20 * l → Under y x → UnderCeiling x l t → UnderCeiling y l t
under_ceiling {x} {y} l t m u h = go (num x) (den x) (num y) (den y) (20 * l - t) (sub-add_cancel m) (den_pos x) u.below h
  where
    go : (a c b d w : ℕ) → w + t ≡ 20 * l → 0 < c → b * c ≤ a * d → a * (20 * l) * ceiling_part ≤ 2000000 * t * c * (ceiling_part + 1) + a * t * ceiling_part
        → b * (20 * l) * ceiling_part ≤ 2000000 * t * d * (ceiling_part + 1) + b * t * ceiling_part
    go a c b d w e C u h =
        let h' : a * w * ceiling_part ≤ 2000000 * t * c * (ceiling_part + 1) = omega (arith, ap (λ (z : ℕ). a * z) e) in
        let z : b * w * ceiling_part ≤ 2000000 * t * d * (ceiling_part + 1) =
        le_of_mul-le-mul_right {k = c} (omega (arith, mul-le-mul_right d h', mul-le-mul_right w u)) C in
        omega (arith, z, ap (λ (z : ℕ). b * z) e)

-- The exact sums do not turn on the order of the window, so the laws hold of a window in slot order beside its history newest first. Assumes nothing.
use Rattle.std.proofs.Common.{rules}
use mathlib.Core.Path.{sym, subst, ◌≡◌, refl, ap, ◌∙◌}
use mathlib.Core.List.{◌∷◌, List, Permᴰ}
use Prim.Native.Nat.{ℕ, suc, ◌*◌, ◌≤◌, ◌<◌}
use native.Mathlib.Nat.{add_left_comm}
use lib.ListN.{length}
use Rattle.std.specs.List.{All}
use Rattle.std.proofs.lemmas.List.Elements.{All-cons, All-head, All-tail}
use Rattle.rounding.specs.Exact.{Measured, Sound, exact_weight, exact_sum, exact_total, exact_lost, Close}
use Rattle.rounding.specs.Ratio.{loss_ratio}
use Rattle.rounding.proofs.Ratio.{ratio_close}
use Rattle.rounding.proofs.Ceiling.{SetsCeiling, ratio_sets_ceiling}

-- the exact sum of a measure over a window and over any permutation of it
pub exact_perm : (size : Measured → ℕ) {os hs : List Measured} → Permᴰ os hs → exact_sum size os ≡ exact_sum size hs
unfolding exact_sum
exact_perm size Permᴰ.nil = refl
exact_perm size (Permᴰ.cons e d) = cc (e, exact_perm size d)
exact_perm size (Permᴰ.swap {a = a} {b = b} {l = l} e f) =
    rw (← e, ← f) (add_left_comm (exact_weight a.age * size a) (exact_weight b.age * size b) (exact_sum size l))
exact_perm size (Permᴰ.trans d e) = exact_perm size d ∙ exact_perm size e

pub length_perm : {os hs : List Measured} → Permᴰ os hs → length os ≡ length hs
length_perm Permᴰ.nil = refl
length_perm (Permᴰ.cons e d) = ap suc (length_perm d)
length_perm (Permᴰ.swap e f) = refl
length_perm (Permᴰ.trans d e) = length_perm d ∙ length_perm e

-- what holds of each element, of the list in another order
pub all_perm : {A : Type 0} (P : A → Type 0) {l r : List A} → Permᴰ l r → All P r → All P l
all_perm P Permᴰ.nil h = h
all_perm P (Permᴰ.cons {a} {b} {l₁} {l₂} e d) h = All-cons P a l₁ (subst P (sym e) (All-head P b l₂ h)) (all_perm P d (All-tail P b l₂ h))
all_perm P (Permᴰ.swap {a} {b} {a'} {b'} {l} e f) h =
    let rest = All-tail P a' (b' ∷ l) h in
    All-cons P a (b ∷ l) (subst P (sym e) (All-head P b' l rest)) (All-cons P b l (subst P (sym f) (All-head P a' (b' ∷ l) h)) (All-tail P b' l rest))
all_perm P (Permᴰ.trans d e) h = all_perm P d (all_perm P e h)

-- ---- os is the window as it is summed, hs the same in another order
module _ (os hs : List Measured) (perm : Permᴰ os hs) (sound : All Sound hs) (short : length hs ≤ 15) (some : 0 < exact_total hs) where
  total_is : exact_total os ≡ exact_total hs
  total_is = search (rules, exact_perm)

  lost_is : exact_lost os ≡ exact_lost hs
  lost_is = search (rules, exact_perm)

  short' : length os ≤ 15
  short' = search (rules, length_perm)

  some' : 0 < exact_total os
  some' = search (rules, total_is)

  -- the ratio is within r/2^46 of the r of hs
  pub close_any_order : Close (loss_ratio os) (exact_lost hs) (exact_total hs)
  close_any_order = rw (lost_is, total_is) at (ratio_close os (all_perm Sound perm sound) short' some')

  -- and where that is at least 0.06 it sets its ceiling
  pub ceiling_any_order : 6 * exact_total hs ≤ 100 * exact_lost hs → SetsCeiling (loss_ratio os) (exact_lost hs) (exact_total hs)
  ceiling_any_order six = rw (lost_is, total_is) at (ratio_sets_ceiling os (all_perm Sound perm sound) short' some' (rw (lost_is, total_is) six))

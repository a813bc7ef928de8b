-- Floats with the sign clear: which are plain, their differences and quotients. Assumes nothing.
use Rattle.std.proofs.Common.{rules}
use Prim.Native.Nat.{◌-◌, ◌*◌, ◌<◌}
use mathlib.Core.Path.{◌≡◌, sym, ◌∙◌}
use mathlib.Core.Bool.{true, false}
use native.Mathlib.Omega.{arith}
use borrow.Author.Tests.{ltb-true, eqb-false}
use lib.Dec.{T}
use lib.Ieee.{Float, nan, inf, fin, add, sub, div, neg, eq, lt}
use lib.Ieee.Fits.{div-fits}
use lib.Ieee.Positive.{num, den}
use lib.Ieee.Scale.{finite}
use Rattle.float.specs.Rounded.{◌⊖◌, ◌⊘◌, bits}
use Rattle.float.proofs.NotNegative.{upward, NotNegative, inf_not_negative, round_not_negative, above_upward}
use Rattle.rounding.specs.Plain.{plain}
use Rattle.rounding.proofs.Operations.{sub_is, div_is, lt_is, eq_zero}

-- a finite one is plain
pub upward_plain : (x : Float) → T (upward x) → T (finite x) → T (plain x)
upward_plain x u f = search rules

plain_sub : (x y : Float) → T (plain x) → T (plain y) → lt y x ≡ true → NotNegative (x ⊖ y)
plain_sub x y p q l =
    let less : num y * den x < num x * den y = ltb-true _ _ (sym (lt_is y x q p) ∙ l) in
    rw (sub_is x y (num x * den y - num y * den x) p q (omega (arith, less))) (round_not_negative _ _)

-- a float less one that is not negative and below it
pub sub_not_negative : (x y : Float) → T (plain y) → lt y x ≡ true → NotNegative (x ⊖ y)
unfolding sub add neg
sub_not_negative nan y p l = search (rules, above_upward y nan)
sub_not_negative (inf true) y p l = search (rules, above_upward y (inf true))
sub_not_negative (inf false) y p l = search (rules, inf_not_negative)
sub_not_negative (fin t n d) nan p l = elim p [ ]
sub_not_negative (fin t n d) (inf _) p l = elim p [ ]
sub_not_negative (fin t n d) (fin s m e) p l = plain_sub (fin t n d) (fin s m e) (above_upward (fin s m e) (fin t n d) p l) p l

plain_div : (x y : Float) → T (plain x) → T (plain y) → eq y (bits 0) ≡ false → NotNegative (x ⊘ y)
plain_div x y p q z = let some = eqb-false (num y) 0 (sym (eq_zero y q) ∙ z) in rw (div_is x y p q (omega (arith, some))) (round_not_negative _ _)

-- a quotient by one that is not negative, nor 0.0
pub div_not_negative : (x y : Float) → T (plain x) → NotNegative y → eq y (bits 0) ≡ false → NotNegative (x ⊘ y)
unfolding div
div_not_negative x nan p n z = absurd n.above
div_not_negative x (inf true) p n z = absurd n.above
div_not_negative x (inf false) p n z = search (rules, div-fits)
div_not_negative x (fin s k d) p n z = plain_div x (fin s k d) p n.above z

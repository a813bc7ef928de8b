-- What std's methods and comparisons of f64 answer, in the words of `specs/`. Assumes nothing.
use Rattle.std.specs.Prelude.{◌≡◌, ℕ, ◌+◌, ◌-◌, ◌<◌, Bool, true, false, cond, Option, Some, None, Float}
use Rattle.std.specs.Float.{inf, binary64, float_is_finite, float_with_sign, is_sign_negative, round_with, ceil, float_round}
use Rattle.std.specs.Float.Ieee.{is_nan, lt, le, of_bits}
use Rattle.std.specs.Float.Ieee.Fits.{down_pos}
use Rattle.std.specs.Float.Ieee.Scale.{finite}
use Rattle.std.specs.Ordering.{float_partial_cmp, is_some_and, is_lt, is_le, is_gt, is_ge, ordering_reverse, partial_lt, partial_le, partial_gt, partial_ge}
use Rattle.std.specs.declared.cmp.Ordering.{Ordering}
use Rattle.std.specs.declared.cmp.Ordering.TheVariants.{Less, Equal, Greater}
use Rattle.std.specs.Option.{option_map}
use Rattle.std.proofs.Common.{arith, rules}
use Rattle.std.proofs.lemmas.Float.{floats_po}
use Rattle.float.specs.Rust.{magnitude, ceiling, half_away, sign_bit}

-- ---- methods

pub finite_is : (x : Float) → float_is_finite x ≡ finite x
unfolding float_is_finite
finite_is x = search rules

pub magnitude_is : (x : Float) → float_with_sign false x ≡ magnitude x
unfolding float_with_sign magnitude
magnitude_is x = search rules

pub sign_bit_is : (x : Float) → is_sign_negative x ≡ sign_bit x
unfolding is_sign_negative sign_bit
sign_bit_is x = search rules

-- the one NaN has no sign
pub nan_unsigned : (x : Float) → is_nan x ≡ true → false ≡ sign_bit x
unfolding is_nan sign_bit
nan_unsigned x h = search rules

-- f64::INFINITY and f64::NEG_INFINITY, which the code has by their bits
pub infinity_is : (b : ℕ) → b ≡ 0x7FF0000000000000 → of_bits binary64 b ≡ inf false
unfolding of_bits
infinity_is b h = rw h

pub neg_infinity_is : (b : ℕ) → b ≡ 0xFFF0000000000000 → of_bits binary64 b ≡ inf true
unfolding of_bits
neg_infinity_is b h = rw h

-- ---- rounding to a whole number

add-sub_one : (n d : ℕ) → 0 < d → n + d - 1 ≡ n + (d - 1)
add-sub_one n d p = omega arith

pub ceiling_is : (x : Float) → ceil binary64 x ≡ ceiling x
unfolding round_with ceiling
ceiling_is x = search (rules, add-sub_one, down_pos)

pub half_away_is : (x : Float) → float_round binary64 x ≡ half_away x
unfolding round_with half_away
half_away_is x = search rules

-- ---- comparisons, which are by `partial_cmp`

-- the answer of `partial_cmp`, from its three tests
abbrev ordering : Bool → Bool → Bool → Option Ordering
ordering l e g = cond l (Some Less) (cond e (Some Equal) (cond g (Some Greater) None))

-- the other way round
gt_reversed : (o : Option Ordering) → is_some_and is_gt (option_map ordering_reverse o) ≡ is_some_and is_lt o
gt_reversed o = search rules

ge_reversed : (o : Option Ordering) → is_some_and is_ge (option_map ordering_reverse o) ≡ is_some_and is_le o
ge_reversed o = search rules

pub partial_lt_is : (x y : Float) → partial_lt float_partial_cmp x y ≡ lt x y
partial_lt_is x y = search rules

pub partial_le_is : (x y : Float) → partial_le float_partial_cmp x y ≡ le x y
unfolding le
partial_le_is x y = search rules

pub partial_gt_is : (x y : Float) → partial_gt float_partial_cmp x y ≡ lt y x
partial_gt_is x y = search (rules, floats_po.antisymm x y, gt_reversed (float_partial_cmp y x), partial_lt_is y x)

pub partial_ge_is : (x y : Float) → partial_ge float_partial_cmp x y ≡ le y x
partial_ge_is x y = search (rules, floats_po.antisymm x y, ge_reversed (float_partial_cmp y x), partial_le_is y x)

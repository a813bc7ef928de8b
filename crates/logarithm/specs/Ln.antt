-- The natural logarithm by document 01's steps ("Logarithm and powers"), under the paper's names. Definitions only.
use Rattle.std.specs.Prelude.{ℕ, ◌+◌, ◌*◌, ◌/◌, ◌%◌, ◌^◌, if◌then◌else◌, ◌&&◌, pos, ◌-ℤ◌, Float, Result, Ok, Err}
use Rattle.std.specs.Float.{binary64}
use Rattle.std.specs.Float.Ieee.{of_int, to_bits, le}
use Rattle.float.specs.Rounded.{bits, one, ◌⊕◌, ◌⊖◌, ◌⊗◌, ◌⊘◌}
use Rattle.refusal.specs.declared.Refusal.{Refusal}
use Rattle.refusal.specs.declared.Refusal.TheVariants.{NoLogarithm}

-- ---- the coefficients of fdlibm's e_log.c

abbrev pub ln2_hi : Float
ln2_hi = bits 0x3FE62E42FEE00000

abbrev pub ln2_lo : Float
ln2_lo = bits 0x3DEA39EF35793C76

abbrev pub L1 : Float
L1 = bits 0x3FE5555555555593

abbrev pub L2 : Float
L2 = bits 0x3FD999999997FA04

abbrev pub L3 : Float
L3 = bits 0x3FD2492494229359

abbrev pub L4 : Float
L4 = bits 0x3FCC71C51D8E78AF

abbrev pub L5 : Float
L5 = bits 0x3FC7466496CB03DE

abbrev pub L6 : Float
L6 = bits 0x3FC39A09D078C69F

abbrev pub L7 : Float
L7 = bits 0x3FC2F112DF3E5244

abbrev pub half : Float
half = bits 0x3FE0000000000000

abbrev pub two : Float
two = bits 0x4000000000000000

-- ---- the steps, from the argument's 64 bits

unfoldable pub logarithm_of_bits : ℕ → Float
logarithm_of_bits n =
    let h = n / 2 ^ 32 + 0x95F62 in
    let k = of_int binary64 (pos (h / 2 ^ 20) -ℤ pos 1023) in
    let reduced = bits ((h % 2 ^ 20 + 0x3FE6A09E) * 2 ^ 32 + n % 2 ^ 32) in
    let f = reduced ⊖ one in
    let q = (half ⊗ f) ⊗ f in
    let s = f ⊘ (two ⊕ f) in
    let z = s ⊗ s in
    let w = z ⊗ z in
    let a = w ⊗ (L2 ⊕ w ⊗ (L4 ⊕ w ⊗ L6)) in
    let b = z ⊗ (L1 ⊕ w ⊗ (L3 ⊕ w ⊗ (L5 ⊕ w ⊗ L7))) in
    let R = b ⊕ a in
    s ⊗ (q ⊕ R) ⊕ k ⊗ ln2_lo ⊖ q ⊕ f ⊕ k ⊗ ln2_hi

-- ---- the argument: positive, normal, finite

-- and so from the smallest normal number to the largest finite one; any other has no logarithm here
unfoldable pub logarithm : Float → Result Float Refusal
unfolding logarithm_of_bits
logarithm x =
    if le (bits 0x0010000000000000) x && le x (bits 0x7FEFFFFFFFFFFFFF)
    then Ok (logarithm_of_bits (to_bits binary64 x))
    else Err NoLogarithm

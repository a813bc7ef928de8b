-- The operations of binary64, each rounded once, under the signs that numerical analysis writes them with. Definitions only.
use Rattle.std.specs.Prelude.{ℕ, from_bits, Float}
use Rattle.std.specs.Float.{binary64}
use Rattle.std.specs.Float.Ieee.{add, sub, mul, div}

infixl 65 ◌⊕◌ ◌⊖◌
infixl 70 ◌⊗◌ ◌⊘◌
abbrev pub ◌⊕◌ : Float → Float → Float
x ⊕ y = add binary64 x y

abbrev pub ◌⊖◌ : Float → Float → Float
x ⊖ y = sub binary64 x y

abbrev pub ◌⊗◌ : Float → Float → Float
x ⊗ y = mul binary64 x y

abbrev pub ◌⊘◌ : Float → Float → Float
x ⊘ y = div binary64 x y

-- the float with these 64 bits
abbrev pub bits : ℕ → Float
bits n = from_bits binary64 n

-- ---- the numbers that several definitions name

abbrev pub one : Float
one = bits 0x3FF0000000000000

abbrev pub eight : Float
eight = bits 0x4020000000000000

abbrev pub thousand : Float
thousand = bits 0x408F400000000000

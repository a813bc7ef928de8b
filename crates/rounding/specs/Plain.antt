-- The floats that the laws of this crate speak of. Definitions only.
use Rattle.std.specs.Prelude.{Bool, false, not, Float}
use Rattle.std.specs.Float.{nan, inf, fin}

-- finite, with the sign clear
abbrev pub plain : Float → Bool
plain nan = false
plain (inf s) = false
plain (fin s m e) = not s

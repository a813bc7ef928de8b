-- Document 01's starred values of the logarithm: ln 1 = 0; ln 2 = 3FE62E42FEFA39EF. Assumes nothing.
use Rattle.std.specs.Prelude.{refl, Ok}
use Rattle.std.specs.Float.Ieee.{add, div, le, lt, mul, of_bits, of_int, sub, to_bits}
use Rattle.float.specs.Rounded.{bits, one}
use Rattle.float.specs.Claims.{Claims, none, claim, Hold}
use Rattle.logarithm.specs.Ln.{two, logarithm}

abbrev pub starred : Claims
starred = claim (logarithm one) (Ok (bits 0)) (claim (logarithm two) (Ok (bits 0x3FE62E42FEFA39EF)) none)

pub starred_hold : Hold starred
unfolding add div le lt mul of_bits of_int sub to_bits logarithm
starred_hold = (refl, (refl, tt))

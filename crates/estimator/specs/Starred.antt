-- Document 01's starred value for the hold: after 38.4 s it is 60 s. Assumes nothing.
use Rattle.std.specs.Prelude.{refl}
use Rattle.std.specs.Float.Ieee.{add, div, le, mul, of_bits, of_int}
use Rattle.float.specs.Claims.{Claims, none, claim, Hold}
use Rattle.duration.specs.Seconds.{seconds}
use Rattle.estimator.specs.Hold.{twice, doubled}

abbrev pub starred : Claims
starred = claim (doubled (record { nanos = 38400000000 })) (record { nanos = 60000000000 }) none

pub starred_hold : Hold starred
unfolding add div le mul of_bits of_int seconds twice doubled
starred_hold = (refl, tt)

-- Document 01's starred value for rates: 125,000 bytes in 500 ms are 2,000,000 bit/s. Assumes nothing.
use Rattle.std.specs.Prelude.{pos, refl, Ok}
use Rattle.std.specs.Float.Ieee.{add, div, eq, in_float, mul, of_bits, of_int}
use Rattle.float.specs.Claims.{Claims, none, claim, Hold}
use Rattle.duration.specs.Seconds.{seconds}
use Rattle.bandwidth.specs.Rate.{nearest, over as rate_over}
use Rattle.bandwidth.specs.Size.{size, float, over}

abbrev pub starred : Claims
starred = claim (over (size (pos 125000)) (record { nanos = 500000000 })) (Ok (nearest 2000000)) none

pub starred_hold : Hold starred
unfolding add div eq in_float mul of_bits of_int seconds rate_over float over
starred_hold = (refl, tt)

-- Document 01's starred values for times: the five infinite time results. Assumes nothing.
use Rattle.std.specs.Prelude.{refl, Ok}
use Rattle.float.specs.Claims.{Claims, none, claim, Hold}
use Rattle.time.specs.Delta as Delta
use Rattle.time.specs.Time as Time
use Rattle.time.specs.declared.TimeDelta.TheVariants.{NegativeInfinity, PositiveInfinity}
use Rattle.time.specs.declared.Timestamp.TheVariants.{DistantPast, DistantFuture}

abbrev pub starred : Claims
starred =
    claim (Time.since DistantPast DistantPast) PositiveInfinity
    (claim (Time.since DistantFuture DistantFuture) PositiveInfinity
    (claim (Time.plus DistantPast PositiveInfinity) (Ok DistantFuture)
    (claim (Time.plus DistantFuture NegativeInfinity) (Ok DistantFuture)
    (claim (Delta.plus PositiveInfinity NegativeInfinity) (Ok PositiveInfinity) none))))

pub starred_hold : Hold starred
unfolding Time.since Time.plus Delta.plus
starred_hold = (refl, (refl, (refl, (refl, (refl, tt)))))

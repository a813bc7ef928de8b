-- Document 01's starred values ("Values to hold"), all in one statement over the list of them. Each crate has its part in a module of this name.
-- Assumes nothing.
use Rattle.float.specs.Claims.{Claims, Hold, also, also_hold}
use Rattle.observation.specs.Starred as Observation
use Rattle.bandwidth.specs.Starred as Bandwidth
use Rattle.logarithm.specs.Starred as Logarithm
use Rattle.time.specs.Starred as Time
use Rattle.estimator.specs.Starred as Estimator

abbrev from_time : Claims
from_time = also Time.starred Estimator.starred

abbrev from_logarithm : Claims
from_logarithm = also Logarithm.starred from_time

abbrev from_bandwidth : Claims
from_bandwidth = also Bandwidth.starred from_logarithm

-- the two spans and the two ceilings; 125,000 bytes in 500 ms; ln 1 and ln 2; the five infinite times; the hold after 38.4 s
abbrev pub starred : Claims
starred = also Observation.starred from_bandwidth

pub starred_hold : Hold starred
starred_hold =
    also_hold Observation.starred from_bandwidth Observation.starred_hold
    (also_hold Bandwidth.starred from_logarithm Bandwidth.starred_hold
    (also_hold Logarithm.starred from_time Logarithm.starred_hold
    (also_hold Time.starred Estimator.starred Time.starred_hold Estimator.starred_hold)))

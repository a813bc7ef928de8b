-- What the definitions of this crate say in the plain numbers of document 01's history. Assumes nothing.
use Rattle.std.proofs.Common.{◌≡◌, ℕ, ◌+◌, ltb, arith}
use Rattle.std.proofs.lemmas.Bool.Decides.{nat_tests}
use Rattle.time.specs.Delta as Delta
use Rattle.time.specs.Time as Time
use Rattle.time.specs.declared.Timestamp.TheVariants.{Exact}
use Rattle.observation.specs.Window.{completes}

-- "Where that send time exceeds the time by more than 250,000,000 ns, an observation completes"
pub completes_after : (last time : ℕ) → completes (Time.since (Exact last) (Exact time)) ≡ ltb (time + 250000000) last
unfolding completes Time.since Delta.difference Delta.order
completes_after last time = grind (arith, nat_tests)

-- What the derived comparisons of times answer, in the words of `specs/`, for callers: `rw (c.lt.ensures, partial_cmp_is _ _)`, or on a function
-- `#[tactic(auto, using(time::proofs::Comparisons::partial_cmp_is))]`, which serves <, <=, > and >=; `eq_is` serves ==, and `cmp_is` the method cmp.
-- Of time differences == alone needs a law, `delta_ties` of specs/Laws.antt: their order is `Delta.order` itself, `max` is `Delta.larger`, and
-- d < TimeDelta::from(x) is `is_lt (Delta.order d (Positive x))`. Assumes nothing.
use Rattle.std.proofs.Common.{◌≡◌, Some, rules}
use Rattle.std.specs.Ordering.{is_eq}
use Rattle.std.specs.Cmp.{unsigned_ties}
use Rattle.time.specs.Time.{order}
use Rattle.time.specs.declared.Timestamp.{Timestamp}
use Rattle.time.specs.contracts.TimestampPartialEq.TheImpl as time_eq
use Rattle.time.specs.contracts.TimestampPartialOrd.TheImpl as time_partial_ord
use Rattle.time.specs.contracts.TimestampOrd.TheImpl as time_ord

pub eq_is : (a b : Timestamp) → (time_eq.ghosts).eq a b ≡ is_eq (order a b)
unfolding order
eq_is a b = search (rules, unsigned_ties)

pub cmp_is : (a b : Timestamp) → (time_ord.ghosts).cmp a b ≡ order a b
unfolding order
cmp_is a b = search rules

pub partial_cmp_is : (a b : Timestamp) → (time_partial_ord.ghosts).partial_cmp a b ≡ Some (order a b)
unfolding order
partial_cmp_is a b = search rules

-- A try that is interrupted is one of those that fail.
use Rattle.std.proofs.Common.{rules, of_calls}
use Rattle.streams.specs.Streams.{again, answered, given_up}
use Rattle.streams.proofs.retried.Goals as goal

pub loop-init : goal.loop-init
loop-init g c = (search rules, λ r last t. t)

pub returns-in_default-clause-tries : goal.returns-in_default-clause-tries
returns-in_default-clause-tries g c = c.loop.invariant.1 _ _ (answered (search rules))

pub returns-in_default-2-clause-tries : goal.returns-in_default-2-clause-tries
returns-in_default-2-clause-tries g c = c.loop.invariant.1 _ _ (answered (search rules))

pub loop-preserved : goal.loop-preserved
loop-preserved g c = (search of_calls, λ r last t. c.loop.invariant.1 r last (again {e = c.in-Err.e} (search rules) t))

pub returns-clause-tries : goal.returns-clause-tries
returns-clause-tries g c = c.loop.invariant.1 _ _ given_up

-- However the rest of the tries ends, so do all.
use Rattle.std.specs.Prelude.{ℕ, Result}
use Rattle.std.specs.declared.io.Error.{Error}
use Rattle.streams.specs.Streams.{Tried}
use Rattle.streams.proofs.retried.Given as goal

abbrev pub invariant-loop : goal.invariant-loop
invariant-loop g l =
    goal.F-IsAlwaysCallable g l.attempt
    × ((r : Result ℕ Error) (last : _) → Tried (goal.F-step g) l.attempt r last → Tried (goal.F-step g) l.initial.attempt r last)

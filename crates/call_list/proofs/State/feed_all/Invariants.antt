use Rattle.std.proofs.Common.{◌-◌, ◌≤◌, length, drop}
use Rattle.call_list.specs.Feed.{Counted, runs, start_of, state_of}
use Rattle.call_list.specs.Feeds.{At}
use Rattle.call_list.proofs.State.feed_all.Given as goal

abbrev pub invariant-loop-outcome : goal.invariant-loop-outcome
invariant-loop-outcome l =
    record {
      read : l.i ≤ length l.chunk;
      counted : Counted l.self.line;
      answered : At l.initial.out (runs (start_of (state_of l.initial.self)) l.chunk) l.out (state_of l.self) l.shown l.w (drop l.i l.chunk);
    }

abbrev pub decreases-loop-outcome : goal.decreases-loop-outcome
decreases-loop-outcome l = length l.chunk - l.i

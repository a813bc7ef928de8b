-- The input so far leads to where the program is.
use Rattle.std.proofs.Common.{◌≡◌, ℕ, ◌≤◌, List, [], length}
use Rattle.std.specs.Io.KnownBytes.{Consumes}
use Rattle.turns.proofs.run.Given as goal

abbrev pub invariant-loop : goal.invariant-loop
invariant-loop g l =
    let start = g.W.Write.contents l.fn.out in record {
      same : length l.chunk ≡ 16384;
      so_far :
          g.T.Program.reached [] l.fn.program start start
          → (input : List ℕ) × Consumes (g.R.Read.remaining l.fn.input) (g.R.Read.remaining l.input) input × (l.counter ≤ length input)
          × g.T.Program.reached input l.program start (g.W.Write.contents l.out);
    }

-- The calls of demand 3 as data, and what the history is told of one. A rate is the 64 bits of its f64: no rate is lost by that (`every_rate` in
-- `proofs/EveryRate`). A time is in ns. Definitions only.
use Rattle.std.specs.Prelude.{ℕ, Bool, List, Option}

-- "Its calls: the four setters, a report over the three lent columns, the reads"
pub data Call : Type 0 where
  estimate : ℕ → Call
  acknowledged : ℕ → Call
  -- on, with its start, or off
  alr : Option ℕ → Call
  capacity : Option ℕ → Call
  -- send times, sizes, lost flags, and the delay estimate
  report : List ℕ → List ℕ → List ℕ → ℕ → Call
  read : Call

-- "The history is fed each call and whether it was refused, nothing else from the controller"
pub record Told : Type 0 where
  pub call : Call
  pub refused : Bool

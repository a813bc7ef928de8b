-- How the program's turns end, each one read and one write. Definitions only.
use Rattle.std.specs.Prelude.{ℕ, ◌≡◌, Result, List}
use Rattle.call_list.specs.Feed.{state_of}
use Rattle.call_list.specs.Whole.{joined, answers, Reached}
use Rattle.turns.specs.declared.Stop.{Stop}
use Rattle.turns.specs.Turns.{Held, Stops}
use Rattle.turns.specs.Texts.{Reaches, Begun, Whole, Parted}
use Rattle.answer.specs.declared.Answering.{Answering}

-- the input so far was fed in some chunks, each in a turn from a fresh state on, and w was answered
pub record Run (input w : List ℕ) (a : Answering) : Type 0 where
  pub chunks : List (List ℕ)
  pub cut : joined chunks ≡ input
  pub reached : Reached chunks w (state_of a.state)

-- the answers to all of the input were written, or a beginning of them, up to where the run stopped
abbrev pub Answers : Result (Unit {0}) Stop → Held → Held → Held → Held → Type 0
Answers result left left' start held =
    (a : Answering) × Stops (Reaches answers Run) (Begun answers Run) (Whole answers) (Parted answers Run) result a left left' start held

-- The program: chunks written anew one after another, and the end of the input. Definitions only.
use Rattle.std.specs.Prelude.{ℕ, ◌≡◌, Result, List, [], ◌∷◌, ◌++◌}
use Rattle.call_list.specs.Whole.{joined}
use Rattle.turns.specs.declared.Stop.{Stop}
use Rattle.turns.specs.Turns.{Held, Stops}
use Rattle.turns.specs.Texts.{Reaches, Begun, Whole, Parted}
use Rattle.rewrite.specs.declared.Rewriting.{Rewriting}
use Rattle.rewrite.specs.Rewrite.{rewritten_from, rewritten, Rewrites}

-- from its start, by calls of `rewrite` on the chunks, the program has written w; this line is left
pub data Reached : List (List ℕ) → List ℕ → List ℕ → Type 0 where
  started : Reached [] [] []
  fed :
      {chunks : List (List ℕ)} {w line : List ℕ} (c text line' : List ℕ)
      → Reached chunks w line → Rewrites line c text line'
      → Reached (chunks ++ (c ∷ [])) (w ++ text) line'

-- and by a call of `rewrite_last` it has written all
pub data Program : List (List ℕ) → List ℕ → Type 0 where
  ended :
      {chunks : List (List ℕ)} {w line : List ℕ} (text : List ℕ)
      → Reached chunks w line → text ≡ rewritten_from line []
      → Program chunks (w ++ text)

-- ---- how the turns end, each one read and one write

-- the input so far was fed in some chunks, each in a turn from the start on, and w was written of it
pub record Run (input w : List ℕ) (r : Rewriting) : Type 0 where
  pub chunks : List (List ℕ)
  pub cut : joined chunks ≡ input
  pub reached : Reached chunks w r.line.items

-- the texts of all lines of the input were written, or a beginning of them, up to where the run stopped
abbrev pub Rewritten : Result (Unit {0}) Stop → Held → Held → Held → Held → Type 0
Rewritten result left left' start held =
    (r : Rewriting) × Stops (Reaches rewritten Run) (Begun rewritten Run) (Whole rewritten) (Parted rewritten Run) result r left left' start held

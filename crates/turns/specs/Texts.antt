-- A program whose output is a text of its input: what stands in the output so far. Definitions only.
use Rattle.std.specs.Prelude.{ℕ, ◌≡◌, List, ◌++◌, length, take}
use Rattle.std.specs.Io.KnownBytes.{Appends}
use Rattle.turns.specs.Turns.{Held}

-- the text of the whole input was written
abbrev pub Whole : (List ℕ → List ℕ) → List ℕ → Held → Held → Type 0
Whole text input start held = Appends start held (text input)

-- w begins the text, whatever follows the input so far
abbrev pub Begins : (List ℕ → List ℕ) → List ℕ → List ℕ → Type 0
Begins text input w = (rest : List ℕ) → take (length w) (text (input ++ rest)) ≡ w

-- the input so far leads to s, by Run, and what comes of it, w, was written
pub record Reaches {S : Type 0} (text : List ℕ → List ℕ) (Run : List ℕ → List ℕ → S → Type 0) (input : List ℕ) (s : S) (start held : Held) : Type 0 where
  pub w : List ℕ
  pub run : Run input w s
  pub written : Appends start held w
  pub beginning : Begins text input w

-- the turn of the chunk that ends the input so far failed: all that came of what was before it, `done`, was written, and a beginning of the rest
pub record Begun {S : Type 0} (text : List ℕ → List ℕ) (Run : List ℕ → List ℕ → S → Type 0) (input : List ℕ) (start held : Held) : Type 0 where
  pub before : List ℕ
  pub chunk : List ℕ
  pub cut : before ++ chunk ≡ input
  pub state : S
  pub done : List ℕ
  pub run : Run before done state
  pub part : List ℕ
  pub written : Appends start held (done ++ part)
  pub beginning : Begins text input (done ++ part)

-- the last write failed: all that came of the input so far was written, and a beginning of what comes at its end
pub record Parted {S : Type 0} (text : List ℕ → List ℕ) (Run : List ℕ → List ℕ → S → Type 0) (input : List ℕ) (start held : Held) : Type 0 where
  pub state : S
  pub done : List ℕ
  pub run : Run input done state
  pub part : List ℕ
  pub written : Appends start held (done ++ part)
  pub beginning : take (length (done ++ part)) (text input) ≡ done ++ part

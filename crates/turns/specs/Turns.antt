-- A program's turns over its input: what one leaves, and how they end. Of the program there is said what its `reached`, `failed`, `whole` and `parted` say. Definitions only.
use Rattle.std.specs.Prelude.{ℕ, ◌-◌, ◌^◌, ◌≤◌, ◌⊎◌, Result, Ok, Err, List, ◌++◌, length}
use Rattle.std.specs.declared.option.Option.{Option}
use Rattle.std.specs.Io.KnownBytes.{Consumes, IsAtEnd}
use Rattle.turns.specs.declared.Stop.{Stop}
use Rattle.turns.specs.declared.Stop.TheVariants.{Input, Output, Turns}

-- what is known of an output's bytes
abbrev pub Held : Type 0
Held = Option (List ℕ)

abbrev pub Reaching : Type 0 → Type 1
Reaching S = List ℕ → S → Held → Held → Type 0

abbrev pub Ending : Type 1
Ending = List ℕ → Held → Held → Type 0

-- the turn of a chunk
abbrev pub Feeds : {S E : Type 0} → Reaching S → Ending → Result (Unit {0}) E → S → S → List ℕ → Held → Held → Type 0
Feeds reached failed (Ok r) s s' chunk held held' = (input : List ℕ) (start : Held) → reached input s start held → reached (input ++ chunk) s' start held'
Feeds reached failed (Err e) s s' chunk held held' = (input : List ℕ) (start : Held) → reached input s start held → failed (input ++ chunk) start held'

-- the turn at the end of the input
abbrev pub Finishes : {S E : Type 0} → Reaching S → Ending → Ending → Result (Unit {0}) E → S → Held → Held → Type 0
Finishes reached whole parted (Ok r) s held held' = (input : List ℕ) (start : Held) → reached input s start held → whole input start held'
Finishes reached whole parted (Err e) s held held' = (input : List ℕ) (start : Held) → reached input s start held → parted input start held'

-- the input that was read, from what was left of it when the turns began to what is left now, and what came of it: all that there was; or all up to a read
-- that failed, to a write that failed, or to more bytes than any input has
abbrev pub Stops : {S : Type 0} → Reaching S → Ending → Ending → Ending → Result (Unit {0}) Stop → S → Held → Held → Held → Held → Type 0
Stops reached failed whole parted (Ok r) s left left' start held = (input : List ℕ) × Consumes left left' input × IsAtEnd left' × whole input start held
Stops reached failed whole parted (Err (Input e)) s left left' start held = (input : List ℕ) × Consumes left left' input × reached input s start held
Stops reached failed whole parted (Err (Output e)) s left left' start held =
    (input : List ℕ) × Consumes left left' input × (failed input start held ⊎ (IsAtEnd left' × parted input start held))
Stops reached failed whole parted (Err Turns) s left left' start held =
    (input : List ℕ) × Consumes left left' input × (2 ^ 64 - 1 ≤ length input) × reached input s start held

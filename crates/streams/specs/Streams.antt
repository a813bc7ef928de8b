-- What reads and writes leave, of a reader and a writer whose bytes are known, and where they fail too. Definitions only.
use Rattle.std.specs.Prelude.{ℕ, ◌≤◌, ◌<◌, ◌≡◌, ◌⊎◌, List, Bool, true, false, length, take, None, Some, Result, Ok, Err}
use Rattle.std.specs.declared.option.Option.{Option}
use Rattle.std.specs.Io.KnownBytes.{Keeps, Appends, Consumes, IsAtEnd}

-- so many bytes that were left stand at the start of the chunk, none of a chunk with room only where the input ends; or none was read
abbrev pub Reads : {E : Type 0} → Result ℕ E → Option (List ℕ) → Option (List ℕ) → List ℕ → Type 0
Reads (Ok n) left left' chunk = (n ≤ length chunk) × Consumes left left' (take n chunk) × (n ≡ 0 → 0 < length chunk → IsAtEnd left')
Reads (Err e) left left' chunk = Keeps left left'

-- fewer bytes were read than the line has, and stand at its start
abbrev pub FillsPart : Option (List ℕ) → Option (List ℕ) → List ℕ → Type 0
FillsPart left left' line = (n : ℕ) × (n < length line) × Consumes left left' (take n line)

-- the line is whole; or a part of it, since the input ended, or since a read failed
abbrev pub Fills : {E : Type 0} → Result Bool E → Option (List ℕ) → Option (List ℕ) → List ℕ → Type 0
Fills (Ok true) left left' line = Consumes left left' line
Fills (Ok false) left left' line = FillsPart left left' line × IsAtEnd left'
Fills (Err e) left left' line = FillsPart left left' line

-- fewer bytes were read than a line has
abbrev pub ReadsPart : ℕ → Option (List ℕ) → Option (List ℕ) → Type 0
ReadsPart width left left' = (bytes : List ℕ) × (length bytes < width) × Consumes left left' bytes

-- a line of so many bytes was read; or a part of one, since the input ended, or since a read failed
abbrev pub ReadsLine : {E : Type 0} → ℕ → Result (Option (List ℕ)) E → Option (List ℕ) → Option (List ℕ) → Type 0
ReadsLine width (Ok (Some line)) left left' = Consumes left left' line
ReadsLine width (Ok None) left left' = ReadsPart width left left' × IsAtEnd left'
ReadsLine width (Err e) left left' = ReadsPart width left left'

-- the lines one by one; after as many as are counted comes none
abbrev pub YieldsLine : {E : Type 0} → ℕ → ℕ → Option (Result (List ℕ) E) → Option (List ℕ) → Option (List ℕ) → Type 0
YieldsLine width count None left left' = (count ≡ 0) ⊎ (ReadsPart width left left' × IsAtEnd left')
YieldsLine width count (Some (Ok line)) left left' = Consumes left left' line
YieldsLine width count (Some (Err e)) left left' = ReadsPart width left left'

-- so many of the bytes, from the first on; or none
abbrev pub Writes : {E : Type 0} → Result ℕ E → Option (List ℕ) → Option (List ℕ) → List ℕ → Type 0
Writes (Ok n) held held' bytes = (n ≤ length bytes) × Appends held held' (take n bytes)
Writes (Err e) held held' bytes = Keeps held held'

-- all of the bytes; or fewer, from the first on, since a write failed
abbrev pub WritesAll : {A E : Type 0} → Result A E → Option (List ℕ) → Option (List ℕ) → List ℕ → Type 0
WritesAll (Ok r) held held' bytes = Appends held held' bytes
WritesAll (Err e) held held' bytes = (n : ℕ) × (n < length bytes) × Appends held held' (take n bytes)

-- a try: the state before, what it answers, the state after
abbrev pub Try : Type 0 → Type 0 → Type 1
Try F E = F → Result ℕ E → F → Type 0

-- tries that fail, and then one that is answered, or none
pub data Tried {F E : Type 0} (try : Try F E) : F → Result ℕ E → F → Type 0 where
  again : {f g h : F} {e : E} {r : Result ℕ E} → try f (Err e) g → Tried try g r h → Tried try f r h
  answered : {f g : F} {r : Result ℕ E} → try f r g → Tried try f r g
  given_up : {f : F} {e : E} → Tried try f (Err e) f

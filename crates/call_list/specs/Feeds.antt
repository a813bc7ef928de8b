-- What `next_line`, a private function, leaves. Definitions only.
use Rattle.std.specs.Prelude.{ℕ, ◌+◌, ◌*◌, ◌≤◌, ◌<◌, ◌≡◌, Option, Some, None, Result, List, length, take, drop}
use Rattle.refusal.specs.declared.Refusal.{Refusal}
use Rattle.call_list.specs.declared.Reading.{Reading}
use Rattle.call_list.specs.Answer.{reading_of, row_of}
use Rattle.call_list.specs.Feed.{Between, Run, row_width, runs, start_of}

-- a run from a state with what was written
abbrev pub here : Between → List ℕ → Run
here p out = record (start_of p) { out = out }

-- a line ended in the first n bytes of s, or none in all of them
pub record Told (outcome : Result (Unit {0}) Refusal) (n : ℕ) (p : Between) (shown : Reading) (p₀ : Between) (s : List ℕ) : Type 0 where
  pub some : 0 < n
  pub within : n ≤ length s
  pub reading : shown ≡ reading_of p.machine.controller
  pub same : runs (start_of p₀) s ≡ runs (here p (row_of outcome shown)) (drop n s)

abbrev pub Answers : Option (Result (Unit {0}) Refusal × ℕ) → Between → Reading → Between → List ℕ → Type 0
Answers (Some a) p shown p₀ s = Told a.0 a.1 p shown p₀ s
Answers None p shown p₀ s = runs (start_of p₀) s ≡ start_of p

-- a chunk that is partly answered, by w bytes of the buffer, which was out₀; its rest leads to the run `end`
pub record At (out₀ : List ℕ) (end : Run) (out : List ℕ) (p : Between) (shown : Reading) (w : ℕ) (rest : List ℕ) : Type 0 where
  pub reading : shown ≡ reading_of p.machine.controller
  pub room : w + row_width * length rest ≤ length out
  pub same_length : length out ≡ length out₀
  pub unwritten : drop w out ≡ drop w out₀
  pub same : end ≡ runs (here p (take w out)) rest

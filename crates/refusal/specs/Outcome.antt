-- What is answered, or the refusal in its place. Definitions only.
use Rattle.std.specs.Prelude.{ℕ, List, [], ◌∷◌, Result, Ok, Err}
use Rattle.refusal.specs.declared.Refusal.{Refusal}
use Rattle.refusal.specs.Refusal.{code}

-- the first that is refused ends the rest (`?`)
abbrev pub and_then : {A B E : Type 0} → Result A E → (A → Result B E) → Result B E
and_then (Ok x) rest = rest x
and_then (Err e) rest = Err e

-- a step for each item, from the first; the first that is refused ends the rest (`?` in a loop)
abbrev pub try_fold : {A S E : Type 0} → (S → A → Result S E) → S → List A → Result S E
try_fold step s [] = Ok s
try_fold step s (x ∷ xs) = and_then (step s x) (λ t. try_fold step t xs)

-- the number that a line has for it: 0 where nothing is refused
abbrev pub number : {A : Type 0} → Result A Refusal → ℕ
number (Ok x) = 0
number (Err e) = code e

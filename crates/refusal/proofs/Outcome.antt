-- Laws of outcomes: what an answer, or a refusal, tells of the steps behind it.
use Rattle.std.proofs.Common.{◌≡◌, ℕ, ◌+◌, ◌<◌, ◌≤◌, List, [], ◌∷◌, length, get_or, drop, Result, Ok, Err, refl, subst, rules}
use Rattle.std.proofs.lemmas.List.{at_drop_more, at_drop_all}
use Rattle.refusal.specs.Outcome.{and_then, try_fold, number}
use Rattle.refusal.specs.Refusal.{code}
use Rattle.refusal.specs.declared.Refusal.{Refusal}
use Rattle.refusal.specs.declared.Refusal.TheVariants.{NotInShape, Rate, Time, UnequalColumns, TooManyPackets, NoLogarithm, Arithmetic, Flag, RunningSums, Observations, QueueFull, NoRoom, PacketSize}

-- an answer is the answer of both steps
pub both_ok : {A B E P : Type 0} (r : Result A E) (f : A → Result B E) (y : B) → and_then r f ≡ Ok y → ((x : A) → r ≡ Ok x → f x ≡ Ok y → P) → P
both_ok (Ok x) f y h k = k x refl h
both_ok (Err e) f y h k = search rules

-- no refusal has the number 0
pub code_positive : {P : Type 0} (e : Refusal) → code e ≡ 0 → P
code_positive NotInShape h = search rules
code_positive Rate h = search rules
code_positive Time h = search rules
code_positive UnequalColumns h = search rules
code_positive TooManyPackets h = search rules
code_positive NoLogarithm h = search rules
code_positive Arithmetic h = search rules
code_positive Flag h = search rules
code_positive RunningSums h = search rules
code_positive Observations h = search rules
code_positive QueueFull h = search rules
code_positive NoRoom h = search rules
code_positive PacketSize h = search rules

-- the number 0 stands beside an answer
pub answered : {A P : Type 0} (r : Result A Refusal) → number r ≡ 0 → ((x : A) → r ≡ Ok x → P) → P
answered (Ok x) h k = k x refl
answered (Err e) h k = code_positive e h

-- ---- a loop that goes through a list by index, whose invariant says that what is left of the list still gives the whole

module _ {A S E : Type 0} (step : S → A → Result S E) where
  -- a turn: of what is left, the first item's step, and then the others'
  pub fold_turn : (s : S) (xs : List A) (i : ℕ) (d : A) → i < length xs
      → try_fold step s (drop i xs) ≡ and_then (step s (get_or xs i d)) (λ t. try_fold step t (drop (i + 1) xs))
  fold_turn s xs i d h = at_drop_more (try_fold step s) xs i d h

  -- the end, where nothing is left
  pub fold_end : (s : S) (xs : List A) (i : ℕ) → length xs ≤ i → try_fold step s (drop i xs) ≡ Ok s
  fold_end s xs i h = at_drop_all (try_fold step s) xs i h

  -- what each step keeps holds of the whole
  pub fold_keeps : (P : S → Type 0) → ((s : S) (x : A) (t : S) → step s x ≡ Ok t → P s → P t) → (s : S) (xs : List A) (r : S)
      → try_fold step s xs ≡ Ok r → P s → P r
  fold_keeps P keeps s [] r h p = let e : s ≡ r = cc in subst P e p
  fold_keeps P keeps s (x ∷ xs) r h p = both_ok (step s x) (λ t. try_fold step t xs) r h (λ t e rest. fold_keeps P keeps t xs r rest (keeps s x t e p))

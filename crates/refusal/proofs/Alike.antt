-- Two outcomes that agree: both are answers, which P ties to each other, or both are the same refusal.
use Rattle.std.proofs.Common.{◌≡◌, Bool, true, false, cond, Result, Ok, Err, refl}
use Rattle.refusal.specs.Outcome.{and_then, number}
use Rattle.refusal.specs.declared.Refusal.{Refusal}

pub data Alike {A B E : Type 0} (P : A → B → Type 0) : Result A E → Result B E → Type 0 where
  answers : {x : A} {y : B} → P x y → Alike P (Ok x) (Ok y)
  same : {e : E} → Alike P (Err e) (Err e)

module _ {A B : Type 0} {P : A → B → Type 0} where
  -- the same number
  pub alike_number : {r : Result A Refusal} {s : Result B Refusal} → Alike P r s → number r ≡ number s
  alike_number (answers p) = refl
  alike_number same = refl

  -- of two choices by one test, where either may need how it came out
  pub alike_if : {E : Type 0} (b : Bool) {r u : Result A E} {s v : Result B E} → (b ≡ true → Alike P r s) → (b ≡ false → Alike P u v)
      → Alike P (cond b r u) (cond b s v)
  alike_if true p q = p refl
  alike_if false p q = q refl

  -- of what follows two steps that agree
  pub alike_then : {C D E : Type 0} {Q : C → D → Type 0} {r : Result C E} {s : Result D E} (f : C → Result A E) (g : D → Result B E) → Alike Q r s
      → ((x : C) (y : D) → r ≡ Ok x → Q x y → Alike P (f x) (g y)) → Alike P (and_then r f) (and_then s g)
  alike_then f g (answers {x} {y} q) k = k x y refl q
  alike_then f g same k = same

  -- of what follows the first of two that agree, where it is not refused
  pub alike_first : {C E : Type 0} {Q : C → B → Type 0} {r : Result C E} {s : Result B E} (f : C → Result A E) → Alike Q r s
      → ((x : C) (y : B) → r ≡ Ok x → Q x y → Alike P (f x) (Ok y)) → Alike P (and_then r f) s
  alike_first f (answers {x} {y} q) k = k x y refl q
  alike_first f same k = same

  -- of what follows one step
  pub alike_after : {C E : Type 0} (r : Result C E) (f : C → Result A E) (g : C → Result B E) → ((x : C) → r ≡ Ok x → Alike P (f x) (g x))
      → Alike P (and_then r f) (and_then r g)
  alike_after (Ok x) f g k = k x refl
  alike_after (Err e) f g k = same

  -- of a step that gives x where another is taken, and that one
  pub alike_gives : {E : Type 0} (s : Result B E) (x : A) → ((y : B) → s ≡ Ok y → P x y) → Alike P (and_then s (λ _. Ok x)) s
  alike_gives (Ok y) x p = answers (p y refl)
  alike_gives (Err e) x p = same

  -- of what follows from it
  pub alike_weaken : {E : Type 0} {Q : A → B → Type 0} {r : Result A E} {s : Result B E} → ((x : A) (y : B) → P x y → Q x y) → Alike P r s → Alike Q r s
  alike_weaken f (answers {x} {y} p) = answers (f x y p)
  alike_weaken f same = same

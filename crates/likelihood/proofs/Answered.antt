-- A step for each item of a list. Assumes nothing.
use Rattle.std.proofs.Common.{List, [], ◌∷◌, Result}
use Rattle.std.specs.Result.{IsOk}
use Rattle.refusal.specs.Outcome.{try_fold}
use Rattle.refusal.proofs.Gives.{Gives, gives, then_answered}
use Rattle.std.specs.List.{All}
use Rattle.std.proofs.lemmas.List.Elements.{All-nil, All-cons, All-head, All-tail}

module _ {A S E : Type 0} (step : S → A → Result S E) where
  -- what each step keeps holds of the answer, which there is
  pub fold_gives : (P : S → Type 0) {Q : A → Type 0} → ((s : S) (x : A) → P s → Q x → Gives (step s x) P) → (s : S) (xs : List A) → P s → All Q xs
      → Gives (try_fold step s xs) P
  fold_gives P keeps s [] p each = gives P s p
  fold_gives P {Q} keeps s (x ∷ xs) p each =
      let first = keeps s x p (All-head Q x xs each) in
      let rest = fold_gives P keeps first.value xs first.holds (All-tail Q x xs each) in
      record { value = rest.value; is = rw first.is rest.is; holds = rest.holds }

  -- what an answer to each step tells of its item
  pub fold_answered : (Q : A → Type 0) → ((s : S) (x : A) → IsOk (step s x) → Q x) → (s : S) (xs : List A) → IsOk (try_fold step s xs) → All Q xs
  fold_answered Q told s [] h = All-nil Q
  fold_answered Q told s (x ∷ xs) h =
      then_answered (step s x) (λ t. try_fold step t xs) h (λ t e rest. All-cons Q x xs (told s x (rw e)) (fold_answered Q told t xs rest))

-- A step that is not refused, by what it answers and what holds of that. Assumes nothing.
use Rattle.std.proofs.Common.{◌≡◌, Result, Ok, Err, IsOkAnd, refl, rules}
use Rattle.std.specs.Result.{IsOk}
use Rattle.refusal.specs.Outcome.{and_then, number}
use Rattle.refusal.specs.declared.Refusal.{Refusal}
use Rattle.refusal.proofs.Outcome.{answered}

pub record Gives {A E : Type 0} (r : Result A E) (P : A → Type 0) : Type 0 where
  pub value : A
  pub is : r ≡ Ok value
  pub holds : P value

-- an answer by itself
pub gives : {A E : Type 0} (P : A → Type 0) (x : A) → P x → Gives {E = E} (Ok x) P
gives P x p = record { value = x; is = refl; holds = p }

-- one of which a clause speaks
pub gives_from : {A E : Type 0} {P : A → Type 0} (r : Result A E) → IsOkAnd r P → Gives r P
gives_from (Ok x) h = gives _ x h
gives_from (Err e) h = absurd h

-- one of which nothing more is known
pub gives_ok : {A E : Type 0} (r : Result A E) → IsOk r → Gives r (λ x. Unit {0})
gives_ok (Ok x) h = gives _ x tt
gives_ok (Err e) h = search rules

-- the number 0 stands beside an answer
pub ok_of_number : {A : Type 0} (r : Result A Refusal) → number r ≡ 0 → IsOk r
ok_of_number r h = answered r h (λ x e. rw e)

-- where two steps are answered, both are
pub then_answered : {A B E P : Type 0} (r : Result A E) (f : A → Result B E) → IsOk (and_then r f) → ((x : A) → r ≡ Ok x → IsOk (f x) → P) → P
then_answered (Ok x) f h k = k x refl h
then_answered (Err e) f h k = search rules

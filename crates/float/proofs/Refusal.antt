-- An answer is chosen by a test, or by whether a step before it is refused: the answer, or the refusal, tells of the test. Assumes nothing.
use Rattle.std.proofs.Common.{◌≡◌, Bool, true, false, cond, Result, Ok, Err, rules}
use Rattle.std.proofs.lemmas.Bool.{cond_both}
use Rattle.refusal.specs.Outcome.{and_then}

-- where the test's other answer is a refusal, an answer passed the test
pub accepted : {A E : Type 0} (b : Bool) (r : Result A E) (e : E) {y : A} → cond b r (Err e) ≡ Ok y → (b ≡ true) × (r ≡ Ok y)
accepted b r e h = search rules

-- where its first choice is an answer, a refusal failed the test
pub declined : {A E : Type 0} (b : Bool) (x : A) (r : Result A E) (e : E) → cond b (Ok x) r ≡ Err e → (b ≡ false) × (r ≡ Err e)
declined b x r e h = search rules

-- two choices by tests that agree: what relates the first two and the second two relates the chosen ones, and either may need how the test came out
pub agreed : {A B : Type 0} (P : A → B → Type 0) (a b : Bool) → a ≡ b → {x y : A} {u v : B}
    → (a ≡ true → P x u) → (a ≡ false → P y v) → P (cond a x y) (cond b u v)
agreed P a b e f g = search rules

-- one choice
pub tested : {A : Type 0} (P : A → Type 0) (b : Bool) {x y : A} → (b ≡ true → P x) → (b ≡ false → P y) → P (cond b x y)
tested P b {x} {y} f g = cond_both b x y P f g

-- what holds of both holds of the one that a test chooses
pub either : {A : Type 0} (P : A → Type 0) (b : Bool) (x y : A) → P x → P y → P (cond b x y)
either P b x y p q = tested P b (λ e. p) (λ e. q)

-- and where it is a step that may be refused
pub checked : {A B E : Type 0} (P : Result B E → Type 0) (r : Result A E) {f : A → Result B E}
    → ((x : A) → r ≡ Ok x → P (f x)) → ((e : E) → r ≡ Err e → P (Err e)) → P (and_then r f)
checked P r f g = search rules

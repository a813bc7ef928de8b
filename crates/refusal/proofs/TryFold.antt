-- std's `try_fold`: the answer is that of `try_fold` of `specs/`. Assumes nothing.
use Rattle.std.proofs.Common.{◌≡◌, List, [], ◌∷◌, Result, Ok, Err, sym, ◌∙◌, ap, subst}
use Rattle.std.specs.Prelude.{Option, Some, None}
use Rattle.std.specs.Result.{IsErr, IsErrAnd, result_from_control_flow}
use Rattle.std.specs.declared.ops.ControlFlow.TheVariants.{Break}
use Rattle.std.specs.Option.{MatchOption}
use Rattle.std.specs.List.{FoldsTo}
use Rattle.std.specs.Fn.{Called, Mut}
use Rattle.std.specs.Iterator.{AlwaysYields, Yields, TryFoldTurn, TryFoldsItems}
use Rattle.std.proofs.lemmas.Iterator.{YieldsList}
use Rattle.refusal.specs.Outcome.{try_fold}

-- what `?` hands on is the refusal
handed_on : {B E : Type 0} (e : E) (r : Result B E) → IsErr r × IsErrAnd r (λ d. d ≡ e) → r ≡ Err e
handed_on e (Ok x) h = absurd h.1
handed_on e (Err d) h = ap Err h.1

-- steps yield what v reads as the items of a list, and each call of g answers as step does
module _ {S A X B E F : Type 0} (steps : S → Option A → S → Type 0) (v : A → X) (g : Mut F (B × (A × Unit {0})) (Result B E)) (step : B → X → Result B E)
    (told : (f : F) (b : B) (x : A) (r : Result B E) (h : F) → Called g f (b, (x, tt)) r h → r ≡ step b (v x)) where
  -- no item is left, or the call at the next one is refused
  abbrev Ends : Option A → F → B → Result B E → Type 0
  Ends o f b r =
      MatchOption o (r ≡ Ok b)
      (λ x. (w : Result B E) × (h : F) × (d : _) × Called g f (b, (x, tt)) w h × (w ≡ result_from_control_flow (Break d)) × (IsErr r × IsErrAnd r (λ e. e ≡ d.0)))

  ends : (o : Option A) (f : F) (b : B) (s u : S) (all : List X) (r : Result B E) → AlwaysYields steps v s all → steps s o u → Ends o f b r → r ≡ try_fold step b all
  ends None f b s u [] r y p k = k
  ends None f b s u (z ∷ all) r y p k = absurd (y.0 u p)
  ends (Some x) f b s u [] r y p k = absurd (y x u p)
  ends (Some x) f b s u (z ∷ all) r y p k =
      let is : step b z ≡ Err k.2.0 = ap (step b) (sym (y.1 x u p).0) ∙ sym (told f b x k.0 k.1 k.3) ∙ k.4 in
      rw is (handed_on k.2.0 r k.5)

  goes : (xs : List A) (o : Option A) (f h : F) (a b : B) (s t u : S) (all : List X) (r : Result B E) → AlwaysYields steps v s all → Yields steps s xs t → steps t o u
      → FoldsTo (TryFoldTurn g (λ r c. r ≡ result_from_control_flow c)) (f, a) xs (h, b) → Ends o h b r → r ≡ try_fold step a all
  goes [] o f h a b s t u all r y c p q k =
      let same : a ≡ b = ap (λ (w : F × B). w.1) q in
      rw same (ends o h b s u all r y (subst (λ w. steps w o u) (sym c) p) k)
  goes (x ∷ xs) o f h a b s t u [] r y c p q k = absurd (y x c.0 c.1)
  goes (x ∷ xs) o f h a b s t u (z ∷ all) r y c p q k =
      let next = y.1 x c.0 c.1 in
      let is : step a z ≡ Ok q.0.1 = ap (step a) (sym next.0) ∙ sym (told f a x q.1.0 q.0.0 q.1.1) ∙ q.1.2 in
      rw is (goes xs o q.0.0 h q.0.1 b c.0 t u all r next.1 c.2 p q.2 k)

  pub try_folds : {s u : S} {f : F} (a : B) (all : List X) (r : Result B E)
      → TryFoldsItems steps g (λ r c. r ≡ result_from_control_flow c) (λ d r. IsErr r × IsErrAnd r (λ e. e ≡ d.0)) s f a r u → YieldsList steps v s all → r ≡ try_fold step a all
  try_folds {s} {u} {f} a all r d e = goes d.0 d.1 f d.2 a d.3 s d.4.0 u all r e.runs d.4.1 d.4.2 d.5 d.6

-- What a fold's end tells of each element of its list. Assumes nothing.
use mathlib.Core.List.{foldl}
use Rattle.std.proofs.Common.{List, [], ◌∷◌}
use Rattle.std.specs.List.{All}
use Rattle.std.proofs.lemmas.List.Elements.{All-nil, All-cons}

-- backwards: if Q after a step gives Q before it and P of its element, Q of the fold gives P of each element
pub each_of_fold :
    {A B : Type 0} (P : A → Type 0) (Q : B → Type 0) (f : B → A → B) → ((b : B) (x : A) → Q (f b x) → Q b × P x) → (b : B) (l : List A)
    → Q (foldl f b l) → Q b × All P l
each_of_fold P Q f step b [] q = (q, All-nil P)
each_of_fold P Q f step b (x ∷ l) q =
    let rest = each_of_fold P Q f step (f b x) l q in
    let first = step b x rest.0 in
    (first.0, All-cons P x l first.1 rest.1)

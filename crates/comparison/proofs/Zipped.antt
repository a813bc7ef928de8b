-- Two lists of one length are the same where each pair of their zip is.
use Rattle.std.proofs.Common.{rules, arith, ◌≡◌, Bool, List, [], ◌∷◌, length, refl}
use Rattle.std.specs.List.{zip, list_all}
use Rattle.std.specs.Cmp.Lexicographic.{pointwise}

pub pairs : {X : Type 0} (R : X → X → Bool) (xs ys : List X) → length xs ≡ length ys → list_all (λ p. R p.0 p.1) (zip xs ys) ≡ pointwise R xs ys
pairs R [] [] e = refl
pairs R [] (y ∷ ys) e = grind arith
pairs R (x ∷ xs) [] e = grind arith
pairs R (x ∷ xs) (y ∷ ys) e = let rest = pairs R xs ys (omega arith) in search rules

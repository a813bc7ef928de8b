-- A list of claims, each that a computed value is the stated one, of any types. Document 01's starred values are proved in one statement over
-- such a list; each crate has the part of it that its own definitions answer. Definitions only.
use Rattle.std.specs.Prelude.{◌≡◌}

pub data Claims : Type 1 where
  none : Claims
  claim : {A : Type 0} → A → A → Claims → Claims

-- every claim of the list holds
abbrev pub Hold : Claims → Type 0
Hold none = Unit {0}
Hold (claim computed stated rest) = (computed ≡ stated) × Hold rest

-- one list after another
abbrev pub also : Claims → Claims → Claims
also none more = more
also (claim computed stated rest) more = claim computed stated (also rest more)

pub also_hold : (a b : Claims) → Hold a → Hold b → Hold (also a b)
also_hold none b h k = k
also_hold (claim computed stated rest) b h k = (h.0, also_hold rest b h.1 k)

-- A line's columns by their number. Assumes nothing.
use Prim.Native.Nat.{ℕ, zero, suc, ◌+◌, ◌≤◌, ◌<◌}
use mathlib.Core.Path.{◌≡◌, refl, sym}
use mathlib.Core.Bool.{Bool, true, false}
use mathlib.Core.List.{List, [], ◌∷◌}
use native.Mathlib.Nat.{add-zero, zero-add, suc-add, add_assoc}
use native.Mathlib.Omega.{arith}
use borrow.Author.Tests.{eq-eqb, ne_eqb, eqb-true, eqb-false}
use lib.Dec.{eqb, lit<}
use lib.ListN.{length, get_or, take, drop, length-drop}
use lib.Seq.{drop-drop, take_all}
use Rattle.std.proofs.Common.{Option, Some, None}
use Rattle.call_line.specs.Column.{ascii_space, digits_of, leading_spaces, column_of, start, total, cut}
use Rattle.call_line.specs.Line.{wide, narrow, four, fields_in, fields_of}

-- ---- where columns start

-- a column starts where the one before it ends
pub start_next : (ws : List ℕ) (k : ℕ) → k < length ws → start ws (k + 1) ≡ start ws k + get_or ws k 0
start_next [] k h = absurd (omega arith)
start_next (w ∷ ws) zero h = simp (add-zero, zero-add)
start_next (w ∷ ws) (suc k) h =
    rw (suc-add k 1, start_next ws k (omega arith)) (sym (add_assoc w (start ws k) (get_or ws k 0)))

-- a column starts and ends within the line
pub starts_within : (ws : List ℕ) (k : ℕ) → k ≤ length ws → start ws k ≤ total ws
starts_within ws zero h = omega arith
starts_within [] (suc k) h = absurd (omega arith)
starts_within (w ∷ ws) (suc k) h = omega (arith, starts_within ws k (omega arith))

pub within : (ws : List ℕ) (k : ℕ) → k < length ws → start ws k + get_or ws k 0 ≤ total ws
within ws k h = omega (arith, start_next ws k h, starts_within ws (k + 1) (omega arith))

-- ---- a column

-- spaces before it say nothing
pub after_spaces :
    (s : List ℕ) (i : ℕ) → i < length s → ((k : ℕ) → k < i → get_or s k 0 ≡ ascii_space) → (get_or s i 0 ≡ ascii_space → ⊥)
    → column_of s ≡ digits_of (drop i s)
unfolding column_of leading_spaces
after_spaces [] i l h n = absurd (omega arith)
after_spaces (b ∷ s) zero l h n = simp (ne_eqb _ _ n)
after_spaces (b ∷ s) (suc i) l h n =
    simp (eq-eqb _ _ (h 0 (omega arith))) (after_spaces s i (omega arith) (λ k u. h (suc k) (omega arith)) n)

-- nothing but spaces
pub blank : (s : List ℕ) → ((k : ℕ) → k < length s → get_or s k 0 ≡ ascii_space) → column_of s ≡ None
unfolding column_of leading_spaces digits_of
blank [] h = refl
blank (b ∷ s) h = simp (eq-eqb _ _ (h 0 (omega arith))) (blank s (λ k u. h (suc k) (omega arith)))

-- ---- four columns

-- each is cut off what those before it leave, and the last is what is left
pub columns_cut :
    (ws s : List ℕ) → length ws ≡ 4 → length s ≡ total ws
    → fields_in ws s ≡ four (column_of (take (get_or ws 0 0) s)) (column_of (take (get_or ws 1 0) (drop (get_or ws 0 0) s)))
    (column_of (take (get_or ws 2 0) (drop (get_or ws 1 0) (drop (get_or ws 0 0) s))))
    (column_of (drop (get_or ws 2 0) (drop (get_or ws 1 0) (drop (get_or ws 0 0) s))))
unfolding fields_in
columns_cut [] s e l = absurd (omega arith)
columns_cut (k ∷ []) s e l = absurd (omega arith)
columns_cut (k ∷ a ∷ []) s e l = absurd (omega arith)
columns_cut (k ∷ a ∷ b ∷ []) s e l = absurd (omega arith)
columns_cut (k ∷ a ∷ b ∷ c ∷ []) s e l =
    let w : length (drop (k + (a + b)) s) ≤ c = omega (arith, length-drop (k + (a + b)) s) in
    rw (drop-drop a k s, drop-drop b (k + a) s, add_assoc k a b, add-zero, add-zero, add-zero, take_all c (drop (k + (a + b)) s) w)
columns_cut (k ∷ a ∷ b ∷ c ∷ d ∷ ws) s e l = absurd (omega arith)

four_1 : (a b c : Option ℕ) → four a None b c ≡ None
unfolding four
four_1 (Some n) b c = refl
four_1 None b c = refl

four_2 : (a b c : Option ℕ) → four a b None c ≡ None
unfolding four
four_2 (Some n) (Some m) c = refl
four_2 (Some n) None c = refl
four_2 None b c = refl

four_3 : (a b c : Option ℕ) → four a b c None ≡ None
unfolding four
four_3 (Some n) (Some m) (Some k) = refl
four_3 (Some n) (Some m) None = refl
four_3 (Some n) None c = refl
four_3 None b c = refl

module _ (ws s : List ℕ) where
  pub wrong_column : (k : ℕ) → k < 4 → column_of (cut ws k s) ≡ None → fields_in ws s ≡ None
  unfolding fields_in four
  wrong_column zero h w = simp w
  wrong_column (suc zero) h w = simp (w, four_1)
  wrong_column (suc (suc zero)) h w = simp (w, four_2)
  wrong_column (suc (suc (suc zero))) h w = simp (w, four_3)
  wrong_column (suc (suc (suc (suc k)))) h w = absurd (omega arith)

-- ---- a line told by its length

-- four columns, none of them without places
pub record Four (ws : List ℕ) : Type 0 where
  pub long : length ws ≡ 4
  pub places : (k : ℕ) → k < 4 → 0 < get_or ws k 0

-- four columns by which a line is read that is as long as they are wide
pub record Shape (ws : List ℕ) : Type 0 where
  pub columns : Four ws
  pub told : (s : List ℕ) → length s ≡ total ws → fields_of s ≡ fields_in ws s

four_places : (ws : List ℕ) → length ws ≡ 4 → 0 < get_or ws 0 0 → 0 < get_or ws 1 0 → 0 < get_or ws 2 0 → 0 < get_or ws 3 0 → Four ws
four_places ws l p q r s = record { long = l; places = go }
  where
    go : (k : ℕ) → k < 4 → 0 < get_or ws k 0
    go zero h = p
    go (suc zero) h = q
    go (suc (suc zero)) h = r
    go (suc (suc (suc zero))) h = s
    go (suc (suc (suc (suc k)))) h = absurd (omega arith)

pub wide_shape : Shape wide
unfolding fields_of
wide_shape = record { columns = four_places wide refl (lit< tt) (lit< tt) (lit< tt) (lit< tt); told = λ s e. simp (eq-eqb _ _ e) }

pub narrow_shape : Shape narrow
unfolding fields_of
narrow_shape =
    record {
      columns = four_places narrow refl (lit< tt) (lit< tt) (lit< tt) (lit< tt);
      told = λ s e. simp (ne_eqb (length s) (total wide) (λ w. omega arith), eq-eqb _ _ e);
    }

pub other_width : (s : List ℕ) → (length s ≡ total wide → ⊥) → (length s ≡ total narrow → ⊥) → fields_of s ≡ None
unfolding fields_of
other_width s w n = simp (ne_eqb _ _ w, ne_eqb _ _ n)

-- the shape of a line, if it has one
pub data Told (s : List ℕ) : Type 0 where
  is_wide : length s ≡ total wide → Told s
  is_narrow : length s ≡ total narrow → Told s
  other : fields_of s ≡ None → Told s

pub told_by_length : (s : List ℕ) → Told s
told_by_length s = pick (eqb (length s) (total wide)) (eqb (length s) (total narrow)) refl refl
  where
    pick : (w n : Bool) → eqb (length s) (total wide) ≡ w → eqb (length s) (total narrow) ≡ n → Told s
    pick true n p q = is_wide (eqb-true _ _ p)
    pick false true p q = is_narrow (eqb-true _ _ q)
    pick false false p q = other (other_width s (eqb-false _ _ p) (eqb-false _ _ q))

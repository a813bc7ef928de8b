-- What a column says, byte by byte: the laws of its reading. Assumes nothing.
use Prim.Native.Nat.{ℕ, zero, suc, ◌+◌, ◌-◌, ◌*◌, ◌^◌, ◌≤◌, ◌<◌}
use mathlib.Core.Path.{◌≡◌, refl}
use mathlib.Core.Bool.{Bool, true, false, cond, true≢false}
use mathlib.Core.List.{List, [], ◌∷◌, ◌++◌}
use native.Mathlib.Nat.{pow-suc, pow-le-pow_right}
use native.Mathlib.Numerals.{add-one}
use native.Mathlib.Omega.{arith}
use borrow.Author.Tests.{leb-true, lt-ltb, le-ltb, eq-eqb, ne_eqb, eqb-true}
use lib.Dec.{eqb, leb, lit<}
use lib.ListN.{length, get_or, drop, drop_of_length-le}
use lib.Seq.{drop-cons}
use Rattle.std.proofs.lemmas.Bool.{and_parts}
use Rattle.std.proofs.Common.{Option, Some, None}
use Rattle.call_line.specs.Column.{ascii_nine, ascii_zero, is_digit, more, after_zero, digits_of}

-- ---- the digits

pub no_digits : (s : List ℕ) → length s ≡ 0 → digits_of s ≡ None
unfolding digits_of
no_digits [] e = refl
no_digits (b ∷ s) e = absurd (omega arith)

pub leading_zero : (s : List ℕ) → get_or s 0 0 ≡ ascii_zero → 1 < length s → digits_of s ≡ None
unfolding digits_of after_zero
leading_zero [] e l = absurd (omega arith)
leading_zero (b ∷ []) e l = absurd (omega arith)
leading_zero (b ∷ d ∷ s) e l = simp (eq-eqb _ _ e)

-- a zero alone is no leading zero
pub one_digit : (s : List ℕ) → length s ≡ 1 → digits_of s ≡ more 0 s
unfolding digits_of after_zero is_digit more
one_digit [] e = absurd (omega arith)
one_digit (b ∷ []) e = pick (eqb b ascii_zero) refl
  where
    pick : (t : Bool) → eqb b ascii_zero ≡ t → cond t (Some 0) (more 0 (b ∷ [])) ≡ more 0 (b ∷ [])
    pick true q = rw (eqb-true b ascii_zero q)
    pick false q = refl
one_digit (b ∷ d ∷ s) e = absurd (omega arith)

pub no_leading_zero : (s : List ℕ) → (length s ≡ 0 → ⊥) → (get_or s 0 0 ≡ ascii_zero → ⊥) → digits_of s ≡ more 0 s
unfolding digits_of
no_leading_zero [] m n = absurd (m refl)
no_leading_zero (b ∷ s) m n = simp (ne_eqb _ _ n)

pub more_end : (s : List ℕ) (i v : ℕ) → length s ≤ i → more v (drop i s) ≡ Some v
unfolding more
more_end s i v h = simp (drop_of_length-le s h)

pub digit_bounds : (b : ℕ) → is_digit b ≡ true → (ascii_zero ≤ b) × (b ≤ ascii_nine)
unfolding is_digit
digit_bounds b e =
    let h = and_parts (leb ascii_zero b) (leb b ascii_nine) e in (leb-true _ _ h.0, leb-true _ _ h.1)

-- 19 digits fit a u64: those before the place i make v, and b is there
pub digits_fit :
    (i v b : ℕ) → i < 19 → v < 10 ^ i → is_digit b ≡ true
    → (v * 10 + (b - ascii_zero) < 10 ^ (i + 1)) × (v * 10 + (b - ascii_zero) < 2 ^ 64)
digits_fit i v b u f d =
    let w : v * 10 + (b - ascii_zero) < 10 ^ suc i = omega (arith, digit_bounds b d, pow-suc 10 i) in
    let m : 10 ^ suc i ≤ 10 ^ 19 = pow-le-pow_right (lit< tt) {j = 19} (omega arith) in
    (rw (add-one i) w, omega arith)

pub more_stop : (s : List ℕ) (i v : ℕ) → i < length s → is_digit (get_or s i 0) ≡ false → more v (drop i s) ≡ None
unfolding more
more_stop s i v h e = rw (drop-cons s i 0) (simp e)

module _ (s : List ℕ) (i v : ℕ) (h : i < length s) (d : is_digit (get_or s i 0) ≡ true) where
  pub more_over : 2 ^ 64 ≤ v * 10 + (get_or s i 0 - ascii_zero) → more v (drop i s) ≡ None
  unfolding more
  more_over l = rw (drop-cons s i 0) (simp (d, le-ltb _ _ l))

  pub more_on : v * 10 + (get_or s i 0 - ascii_zero) < 2 ^ 64 → more v (drop i s) ≡ more (v * 10 + (get_or s i 0 - ascii_zero)) (drop (i + 1) s)
  unfolding more
  more_on l = rw (add-one, drop-cons s i 0) (simp (d, lt-ltb _ _ l))

-- the same with more digits t behind those of s
module _ (s t : List ℕ) (i v : ℕ) (h : i < length s) where
  pub stop_ahead : is_digit (get_or s i 0) ≡ false → more v (drop i s ++ t) ≡ None
  unfolding more
  stop_ahead e = rw (drop-cons s i 0) (simp e)

  pub on_ahead :
      is_digit (get_or s i 0) ≡ true → v * 10 + (get_or s i 0 - ascii_zero) < 2 ^ 64
      → more v (drop i s ++ t) ≡ more (v * 10 + (get_or s i 0 - ascii_zero)) (drop (i + 1) s ++ t)
  unfolding more
  on_ahead d l = rw (add-one, drop-cons s i 0) (simp (d, lt-ltb _ _ l))

pub end_ahead : (s t : List ℕ) (i v : ℕ) → length s ≤ i → more v (drop i s ++ t) ≡ more v t
end_ahead s t i v h = simp (drop_of_length-le s h)

-- ---- a byte that is no digit

wrong_either : (t : Bool) → ◌≡◌ {A = Option ℕ} (cond t None None) None
wrong_either true = refl
wrong_either false = refl

more_wrong : (v : ℕ) (s : List ℕ) (i : ℕ) → i < length s → is_digit (get_or s i 0) ≡ false → more v s ≡ None
unfolding more
more_wrong v [] i h o = absurd (omega arith)
more_wrong v (b ∷ s) zero h o = simp o
more_wrong v (b ∷ s) (suc i) h o = simp (more_wrong (v * 10 + (b - ascii_zero)) s i (omega arith) o, wrong_either)

not_alone : (s : List ℕ) (i : ℕ) → i < length s → after_zero s ≡ None
unfolding after_zero
not_alone [] i h = absurd (omega arith)
not_alone (x ∷ s) i h = refl

not_zero : (b : ℕ) → is_digit b ≡ false → b ≡ ascii_zero → ⊥
unfolding is_digit
not_zero b o e = true≢false (rw e at o)

pub no_digit : (s : List ℕ) (i : ℕ) → i < length s → is_digit (get_or s i 0) ≡ false → digits_of s ≡ None
unfolding digits_of
no_digit [] i h o = absurd (omega arith)
no_digit (b ∷ s) zero h o = simp (ne_eqb _ _ (not_zero b o), more_wrong 0 (b ∷ s) 0 h o)
no_digit (b ∷ s) (suc i) h o =
    simp (more_wrong 0 (b ∷ s) (suc i) h o, not_alone s i (omega arith), wrong_either)

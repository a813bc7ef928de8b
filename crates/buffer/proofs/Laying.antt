-- Bytes laid one after another into a buffer. Assumes nothing.
use Prim.Native.Nat.{ℕ, suc, ◌+◌, ◌-◌, ◌≤◌, ◌<◌}
use mathlib.Core.Path.{◌≡◌, refl, sym, ap, ◌∙◌}
use mathlib.Core.List.{List, [], ◌∷◌, ◌++◌, append_assoc}
use native.Mathlib.Numerals.{add-one}
use native.Mathlib.Omega.{arith}
use lib.ListN.{length, get_or, take, drop, set, length-append, length-take, length-drop}
use lib.Seq.{take_at, drop_at, drop-drop, set_at, drop-cons, length-take-le}
use borrow.Rule.Slice.PartMut.{put_mid, Post-is}
use Rattle.buffer.specs.Laid.{laid}

-- a part that was lent, and is written full
pub mid_laid : (a e : ℕ) (xs p : List ℕ) → a ≤ e → length p ≡ e - a → put_mid a (e - a) xs p ≡ laid a p xs
mid_laid a e xs p h l =
    let k : e ≡ a + length p = omega arith in
    ap (λ (z : List ℕ). take a xs ++ (p ++ z)) (Post-is a e xs h ∙ ap (λ (j : ℕ). drop j xs) k)

-- the next bytes p, after the bytes d that are there
module _ (o s d p : List ℕ) (a k : ℕ) (e : length d ≡ a) (q : s ≡ d ++ drop a o) (f : length p ≡ k) where
  pub laid_next : laid a p s ≡ (d ++ p) ++ drop (a + k) o
  laid_next =
      ap (laid a p) q
      ∙ rw (take_at d (drop a o) a e, append_assoc, f)
      (ap (λ (l : List ℕ). d ++ (p ++ l)) (sym (drop-drop k a (d ++ drop a o)) ∙ ap (drop k) (drop_at d (drop a o) a e) ∙ drop-drop k a o))

  pub length_next : length (d ++ p) ≡ a + k
  length_next = length-append d p ∙ rw (e, f)

-- one byte more
pub byte_laid :
    (s p : List ℕ) (w n b : ℕ) → n ≡ w + length p → n < length s → set (laid w p s) n b ≡ laid w (p ++ (b ∷ [])) s
byte_laid s p w n b e h =
    let l : length (take w s ++ p) ≡ n = length-append (take w s) p ∙ rw (length-take-le w s (omega arith)) (sym e) in
    let f : w + length p + 1 ≡ w + length (p ++ (b ∷ [])) = rw (length-append p (b ∷ [])) (omega arith) in
    rw (← f, ← e, add-one, drop-cons s n 0 h, ← append_assoc, set_at (take w s ++ p) (get_or s n 0) (drop (suc n) s) b n l)
    (simp append_assoc)

module _ (a k : ℕ) (p s : List ℕ) (l : length p ≡ k) (h : a + k ≤ length s) where
  seam : length (take a s ++ p) ≡ a + k
  seam = length-append (take a s) p ∙ rw (length-take-le a s (omega arith), l)

  parts : laid a p s ≡ (take a s ++ p) ++ drop (a + k) s
  parts = rw (append_assoc, l)

  pub take_laid : take (a + k) (laid a p s) ≡ take a s ++ p
  take_laid = ap (take (a + k)) parts ∙ take_at (take a s ++ p) (drop (a + k) s) (a + k) seam

  pub drop_laid : drop (a + k) (laid a p s) ≡ drop (a + k) s
  drop_laid = ap (drop (a + k)) parts ∙ drop_at (take a s ++ p) (drop (a + k) s) (a + k) seam

  pub length_laid : length (laid a p s) ≡ length s
  length_laid = simp (length-append, length-take, length-drop) (omega arith)

  -- and more bytes after them
  pub laid_twice : (q : List ℕ) → laid (a + k) q (laid a p s) ≡ laid a (p ++ q) s
  laid_twice q =
      let z : a + k + length q ≡ a + (k + length q) = omega arith in
      laid_next s (laid a p s) (take a s ++ p) q (a + k) (length q) seam parts refl
      ∙ rw (length-append p q, l, z) (simp append_assoc)

-- The words of a line, one after the other. Assumes nothing.
use Rattle.std.proofs.Common.{◌≡◌, ℕ, ◌<◌, Bool, true, false, cond, not, List, [], ◌∷◌, length, sym, refl, ap, ◌∙◌, arith}
use Rattle.call_words.specs.Words.{up_to, on_from, is_blank, is_other, words_from, words_in}

-- blanks before a word say nothing
skip : (s : List ℕ) → words_in (on_from is_other s) ≡ words_in s
unfolding on_from is_other words_from
skip [] = refl
skip (b ∷ s) = pick (is_blank b) refl (on_from is_other s) (skip s)
  where
    pick : (t : Bool) → is_blank b ≡ t → (v : List ℕ) → words_in v ≡ words_in s → words_in (cond (not t) (b ∷ s) v) ≡ words_in (b ∷ s)
    pick true e v r = simp (r, e)
    pick false e v r = refl

-- and inside a word no word starts
leave : (s : List ℕ) → words_from true s ≡ words_in (on_from is_blank s)
unfolding on_from words_from
leave [] = refl
leave (b ∷ s) = pick (is_blank b) refl (on_from is_blank s) (leave s)
  where
    pick :
        (t : Bool) → is_blank b ≡ t → (v : List ℕ) → words_from true s ≡ words_in v
        → words_from true (b ∷ s) ≡ words_in (cond t (b ∷ s) v)
    pick true e v r = simp e
    pick false e v r = simp (r, e)

first :
    (s : List ℕ) → 0 < length (on_from is_other s)
    → words_in s ≡ up_to is_blank (on_from is_other s) ∷ words_in (on_from is_blank (on_from is_other s))
unfolding on_from is_other words_from
first [] h = absurd (omega arith)
first (b ∷ s) h = pick (is_blank b) refl (first s) h
  where
    pick :
        (t : Bool) → is_blank b ≡ t
        → (0 < length (on_from is_other s) → words_in s ≡ up_to is_blank (on_from is_other s) ∷ words_in (on_from is_blank (on_from is_other s)))
        → 0 < length (cond (not t) (b ∷ s) (on_from is_other s))
        → words_in (b ∷ s)
        ≡ up_to is_blank (cond (not t) (b ∷ s) (on_from is_other s)) ∷ words_in (on_from is_blank (cond (not t) (b ∷ s) (on_from is_other s)))
    pick true e r l = simp e (r l)
    pick false e r l = simp (e, leave s)

-- ---- what an iterator of words does

module _ (s line : List ℕ) (e : line ≡ on_from is_other s) where
  pub no_more : length line ≡ 0 → words_in s ≡ []
  unfolding words_from
  no_more n = sym (skip s) ∙ ap words_in (sym e ∙ empty line n)
    where
      empty : (l : List ℕ) → length l ≡ 0 → l ≡ []
      empty [] z = refl
      empty (b ∷ l) z = absurd (omega arith)

  pub one_more : (word rest : List ℕ) → 0 < length line → word ≡ up_to is_blank line → rest ≡ on_from is_blank line → words_in s ≡ word ∷ words_in rest
  one_more word rest n w r = rw (w, r, e) (first s (omega (arith, ap length e)))

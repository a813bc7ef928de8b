-- Looking for the first byte that is so. Assumes nothing.
use Rattle.std.proofs.Common.{◌≡◌, ℕ, ◌<◌, Bool, true, false, cond, Option, List, [], ◌∷◌, ◌++◌, length, take, drop, take_at, drop_at, refl, sym, ap, ◌∙◌, add-one}
use Rattle.std.specs.Prelude.{MatchOption, unwrap_or}
use Rattle.std.specs.List.{AllWithin, HoldsAt}
use Rattle.std.proofs.lemmas.Iterator.{index_from_first}
use Rattle.call_words.specs.Words.{up_to, on_from}

module _ (so : ℕ → Bool) where
  -- how many bytes stand before it
  pub count_before :
      (s : List ℕ) (r : Option ℕ)
      → MatchOption r (AllWithin (λ b. so b ≡ false) s 0 (length s)) (λ i. (i < length s) × HoldsAt (λ b. so b ≡ true) s i × AllWithin (λ b. so b ≡ false) s 0 i)
      → length (up_to so s) ≡ unwrap_or r (length s)
  unfolding up_to
  count_before =
      index_from_first (λ s. length (up_to so s)) (λ b. so b ≡ true) (λ b. so b ≡ false) refl (λ b s e. simp e) (λ b s e. simp (e, add-one))

  -- the bytes before it, and from it on
  whole : (s : List ℕ) → up_to so s ++ on_from so s ≡ s
  unfolding up_to on_from
  whole [] = refl
  whole (b ∷ s) = pick (so b) (whole s)
    where
      pick : (t : Bool) → up_to so s ++ on_from so s ≡ s → cond t [] (b ∷ up_to so s) ++ cond t (b ∷ s) (on_from so s) ≡ b ∷ s
      pick true w = refl
      pick false w = ap (λ (l : List ℕ). b ∷ l) w

  -- a text that is cut there
  pub cut_at :
      (s front back : List ℕ) (i : ℕ) → length (up_to so s) ≡ i → front ≡ take i s → back ≡ drop i s → (front ≡ up_to so s) × (back ≡ on_from so s)
  cut_at s front back i n f b =
      (f ∙ ap (take i) (sym (whole s)) ∙ take_at (up_to so s) (on_from so s) i n, b ∙ ap (drop i) (sym (whole s)) ∙ drop_at (up_to so s) (on_from so s) i n)

-- What is kept of a line, and the next line of some bytes, whatever comes of its lines. Assumes nothing.
use Rattle.std.proofs.Common.{◌≡◌, ℕ, suc, ◌+◌, ◌≤◌, ◌<◌, Bool, true, false, not, cond, List, [], ◌∷◌, ◌++◌, Option, Some, None, is_some, option_map, unwrap_or, length, take, drop, refl, sym, ap, ◌∙◌, arith, length-take, length-append}
use Prim.Native.Nat.{min}
use mathlib.Core.Bool.{true≢false}
use mathlib.Core.List.{append_assoc, append-nil}
use native.Mathlib.Decide.{dec_le}
use borrow.Author.Tests.{ltb-true, ltb-false}
use lib.Dec.{eqb, ltb}
use lib.Seq.{take_all, take-append-le, take-append-add}
use Rattle.std.specs.List.{position_or_len}
use Rattle.call_line.specs.Line.{line_of}
use Rattle.call_line.proofs.Clear.{other_length}
use Rattle.call_list.specs.Feed.{kept, kept_of, pushed}
use Rattle.call_list.specs.Pieces.{is_newline, line_end, kept_on}

-- ---- a line's first bytes

-- the bytes that are kept say what the line says
pub cut_line : (l : List ℕ) → line_of (kept_of l) ≡ line_of l
cut_line l = pick (dec_le (length l) kept)
  where
    pick : Dec (length l ≤ kept) → line_of (kept_of l) ≡ line_of l
    pick (yes h) = ap line_of (take_all kept l h)
    pick (no n) =
        other_length (kept_of l) (λ e. omega (arith, n, length-take kept l)) (λ e. omega (arith, n, length-take kept l))
        ∙ sym (other_length l (λ e. omega (arith, n)) (λ e. omega (arith, n)))

-- what is kept of a line that goes on
pub kept_more : (l x : List ℕ) → kept_of (kept_of l ++ x) ≡ kept_of (l ++ x)
kept_more l x = pick (dec_le (length l) kept)
  where
    pick : Dec (length l ≤ kept) → kept_of (kept_of l ++ x) ≡ kept_of (l ++ x)
    pick (yes h) = ap (λ (k : List ℕ). kept_of (k ++ x)) (take_all kept l h)
    pick (no n) =
        take-append-le kept (kept_of l) x (omega (arith, n, length-take kept l))
        ∙ take_all kept (kept_of l) (omega (arith, length-take kept l))
        ∙ sym (take-append-le kept l x (omega (arith, n)))

pub kept_short : (l : List ℕ) → length (kept_of l) ≤ kept
kept_short l = omega (arith, length-take kept l)

-- ---- the next line of the bytes s

-- the place of their newline
abbrev pub newline_at : List ℕ → ℕ
newline_at s = position_or_len is_newline s

-- F is what comes of a line so far and bytes, E what comes of a line that has ended and bytes
module _ {X : Type 0} (F : List ℕ → List ℕ → X) (E : List ℕ → List ℕ → X) where
  abbrev pub ByByte : Type 0
  ByByte = (line : List ℕ) (b : ℕ) (s : List ℕ) → length line ≤ kept → F line (b ∷ s) ≡ cond (eqb b 10) (E line s) (F (pushed line b) s)

  abbrev Ended : List ℕ → Type 0
  Ended s = (line : List ℕ) → length line ≤ kept → newline_at s < length s → F line s ≡ E (kept_on line s) (drop (newline_at s + 1) s)

  abbrev Unended : List ℕ → Type 0
  Unended s = (line : List ℕ) → length line ≤ kept → length s ≤ newline_at s → F line s ≡ F (kept_on line s) []

  module _ (law : ByByte) where
    pub ended_there : (s : List ℕ) → Ended s
    unfolding kept_on is_newline
    ended_there [] line h m = absurd (omega arith)
    ended_there (b ∷ s) line h m = law line b s h ∙ pick (ended_there s) (eqb b 10) m
      where
        pick :
            Ended s → (t : Bool)
            → (let k = cond (not t) (1 + newline_at s) 0 in
            k < suc (length s)
            → cond t (E line s) (F (pushed line b) s) ≡ E (kept_of (line ++ take k (b ∷ s))) (drop (k + 1) (b ∷ s)))
        pick ih true m = rw (append-nil, take_all kept line h) refl
        pick ih false m =
            let k : 1 + newline_at s ≡ suc (newline_at s) = omega arith in
            let j : suc (newline_at s) + 1 ≡ suc (newline_at s + 1) = omega arith in
            rw (k, j)
            (ih (pushed line b) (kept_short _) (omega arith)
            ∙ ap (λ (l : List ℕ). E l (drop (newline_at s + 1) s)) (kept_more (line ++ (b ∷ [])) _ ∙ rw append_assoc))

    pub unended_there : (s : List ℕ) → Unended s
    unfolding kept_on is_newline
    unended_there [] line h m = rw (append-nil, take_all kept line h) refl
    unended_there (b ∷ s) line h m = law line b s h ∙ pick (unended_there s) (eqb b 10) m
      where
        pick :
            Unended s → (t : Bool)
            → (let k = cond (not t) (1 + newline_at s) 0 in
            suc (length s) ≤ k → cond t (E line s) (F (pushed line b) s) ≡ F (kept_of (line ++ take k (b ∷ s))) [])
        pick ih true m = absurd (omega arith)
        pick ih false m =
            let k : 1 + newline_at s ≡ suc (newline_at s) = omega arith in
            rw k
            (ih (pushed line b) (kept_short _) (omega arith)
            ∙ ap (λ (l : List ℕ). F l []) (kept_more (line ++ (b ∷ [])) _ ∙ rw append_assoc))

-- what `read_on` answers
pub ends : (s : List ℕ) (n : ℕ) → line_end s ≡ Some n → (newline_at s < length s) × (n ≡ newline_at s + 1)
unfolding line_end
ends s n e = pick (ltb (newline_at s) (length s)) refl e
  where
    pick :
        (t : Bool) → ltb (newline_at s) (length s) ≡ t → option_map (λ i. i + 1) (cond t (Some (newline_at s)) None) ≡ Some n
        → (newline_at s < length s) × (n ≡ newline_at s + 1)
    pick true l q = (ltb-true _ _ l, sym (ap (λ (o : Option ℕ). unwrap_or o 0) q))
    pick false l q = absurd (true≢false (sym (ap is_some q)))

pub no_end : (s : List ℕ) → line_end s ≡ None → length s ≤ newline_at s
unfolding line_end
no_end s e = pick (ltb (newline_at s) (length s)) refl e
  where
    pick :
        (t : Bool) → ltb (newline_at s) (length s) ≡ t → option_map (λ i. i + 1) (cond t (Some (newline_at s)) None) ≡ None
        → length s ≤ newline_at s
    pick true l q = absurd (true≢false (ap is_some q))
    pick false l q = ltb-false _ _ l

module _ {X : Type 0} (F : List ℕ → List ℕ → X) (E : List ℕ → List ℕ → X) (law : ByByte F E) (s line : List ℕ) (h : length line ≤ kept) where
  pub unended : line_end s ≡ None → F line s ≡ F (kept_on line s) []
  unended e = unended_there F E law s line h (no_end s e)

  pub line_ended : (n : ℕ) → line_end s ≡ Some n → F line s ≡ E (kept_on line s) (drop n s)
  line_ended n e = let x = ends s n e in ended_there F E law s line h x.0 ∙ rw x.1

-- the line that fits in what is kept, and goes on
pub keeps_all : (r n : ℕ) (line bytes : List ℕ) → r + length line ≡ kept → n ≡ min r (length bytes) → line ++ take n bytes ≡ kept_of (line ++ bytes)
keeps_all r n line bytes e m = pick (dec_le (length bytes) r)
  where
    pick : Dec (length bytes ≤ r) → line ++ take n bytes ≡ kept_of (line ++ bytes)
    pick (yes h) =
        rw (take_all n bytes (omega arith)) (sym (take_all kept (line ++ bytes) (omega (arith, length-append line bytes))))
    pick (no k) =
        let z : n ≡ r = omega (arith, k) in
        let y : kept ≡ length line + r = omega arith in
        rw (z, y) (sym (take-append-add line bytes r))

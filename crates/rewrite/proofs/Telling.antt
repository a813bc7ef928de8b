-- A chunk is answered line by line, and what is kept of a line says what the line says. Assumes nothing.
use Rattle.std.proofs.Common.{ℕ, ◌+◌, ◌*◌, ◌≤◌, ◌<◌, ◌≡◌, Bool, true, false, List, [], ◌∷◌, ◌++◌, map, length, take, drop, get_or, refl, sym, ap, ◌∙◌, append_assoc, append-nil, length-append, add-one, arith}
use Rattle.std.specs.Prelude.{Result, Ok, Err, OnOk, OnErr}
use Rattle.arrayvec.specs.ArrayVec.{ArrayVec, array_vec_len}
use mathlib.Core.Bool.{cond}
use borrow.Author.Tests.{ne_eqb}
use Rattle.std.proofs.lemmas.Bool.{eqb-true, eqb-false}
use lib.Dec.{eqb}
use lib.ListN.{drop_of_length-le}
use Rattle.std.proofs.Math.Seq.{drop-cons}
use lib.Seq.{take-append-le}
use Rattle.call_line.specs.Line.{line_of}
use Rattle.call_line.specs.Write.{line_bytes}
use Rattle.call_list.specs.Feed.{kept}
use Rattle.call_list.specs.Whole.{last_line, lines_from, joined}
use Rattle.call_list.proofs.KeptLines.{cut_line, kept_more}
use Rattle.rewrite.specs.Rewrite.{text_for, rewritten_from, Rewrites}
use Rattle.rewrite.proofs.Texts.{no_wider}

-- ---- what is kept of a line

-- it is answered as the line is
cut_last : (l : List ℕ) → rewritten_from (take kept l) [] ≡ rewritten_from l []
unfolding rewritten_from lines_from last_line joined
cut_last [] = refl
cut_last (b ∷ l) = rw (cut_line (b ∷ l))

cut_from : (s l : List ℕ) → rewritten_from (take kept l) s ≡ rewritten_from l s
unfolding rewritten_from lines_from joined
cut_from [] l = cut_last l
cut_from (b ∷ s) l = pick (cut_from s) (eqb b 10)
  where
    pick : ((k : List ℕ) → rewritten_from (take kept k) s ≡ rewritten_from k s)
        → (t : Bool)
        → joined (map text_for (cond t (take kept l ∷ lines_from [] s) (lines_from (take kept l ++ (b ∷ [])) s)))
        ≡ joined (map text_for (cond t (l ∷ lines_from [] s) (lines_from (l ++ (b ∷ [])) s)))
    pick ih true = rw (cut_line l)
    pick ih false = sym (ih (take kept l ++ (b ∷ []))) ∙ ap (λ (x : List ℕ). rewritten_from x s) (kept_more l (b ∷ [])) ∙ ih (l ++ (b ∷ []))

-- ---- the end of the input

pub none_last : rewritten_from [] [] ≡ []
unfolding rewritten_from lines_from last_line joined
none_last = refl

pub last_text : (l : List ℕ) → (length l ≡ 0 → ⊥) → rewritten_from l [] ≡ text_for l
unfolding rewritten_from lines_from last_line joined
last_text [] n = absurd (n refl)
last_text (b ∷ l) n = append-nil (text_for (b ∷ l))

pub last_told : (line : List ℕ) (empty : Bool) → (empty ≡ eqb (length line) 0) → empty ≡ false → [] ++ text_for line ≡ rewritten_from line []
last_told line empty e f = sym (last_text line (eqb-false (length line) 0 (sym e ∙ f)))

pub none_told : (line : List ℕ) (empty : Bool) → (empty ≡ eqb (length line) 0) → empty ≡ true → [] ≡ rewritten_from line []
none_told [] empty e f = sym none_last
none_told (b ∷ line) empty e f = absurd (omega (arith, eqb-true (length (b ∷ line)) 0 (sym e ∙ f)))

-- ---- the next byte

pub line_next : (line s : List ℕ) (b : ℕ) → b ≡ 10 → rewritten_from line (b ∷ s) ≡ text_for line ++ rewritten_from [] s
unfolding rewritten_from lines_from joined
line_next line s b e = rw e refl

pub byte_next : (line s : List ℕ) (b : ℕ) → (b ≡ 10 → ⊥) → rewritten_from line (b ∷ s) ≡ rewritten_from (line ++ (b ∷ [])) s
unfolding rewritten_from lines_from joined
byte_next line s b n = rw (ne_eqb b 10 n) refl

-- one that finds no room is not missed
pub byte_lost : (line s : List ℕ) (b : ℕ) → (b ≡ 10 → ⊥) → kept ≤ length line → rewritten_from line (b ∷ s) ≡ rewritten_from line s
byte_lost line s b n full =
    byte_next line s b n
    ∙ sym (cut_from s (line ++ (b ∷ [])))
    ∙ ap (λ l. rewritten_from l s) (take-append-le kept line (b ∷ []) full)
    ∙ cut_from s line

-- by what a push answers
pub byte_kept :
    {E : Type 0} (r : Result (Unit {0}) E) (line line' : ArrayVec ℕ) (s : List ℕ) (b : ℕ) → (b ≡ 10 → ⊥) → OnOk r (line'.items ≡ line.items ++ (b ∷ []))
    → OnErr r (line' ≡ line) → OnErr r (array_vec_len line ≡ kept) → rewritten_from line.items (b ∷ s) ≡ rewritten_from line'.items s
byte_kept (Ok u) line line' s b n pushed same full = rw pushed (byte_next line.items s b n)
byte_kept (Err u) line line' s b n pushed same full = rw same (byte_lost line.items s b n (omega (arith, full)))

-- ---- a chunk that is partly answered

-- its first i bytes are, by texts
pub record At (line₀ chunk texts line : List ℕ) (i : ℕ) : Type 0 where
  pub read : i ≤ length chunk
  pub room : length texts ≤ line_bytes * i
  pub told : (rest : List ℕ) → rewritten_from line₀ (chunk ++ rest) ≡ texts ++ rewritten_from line (drop i chunk ++ rest)

module _ (line₀ chunk texts line : List ℕ) (i : ℕ) (h : At line₀ chunk texts line i) (m : i < length chunk) (b : ℕ) (e : b ≡ get_or chunk i 0) where
  next : (rest : List ℕ) → drop i chunk ++ rest ≡ b ∷ (drop (i + 1) chunk ++ rest)
  next rest = ap (λ s. s ++ rest) (drop-cons chunk i 0 m) ∙ rw (← e, add-one) refl

  pub line_told : b ≡ 10 → At line₀ chunk (texts ++ text_for line) [] (i + 1)
  line_told z =
      record {
        read = omega (arith, m);
        room = omega (arith, length-append texts (text_for line), h.room, no_wider (line_of line));
        told = λ rest.
            h.told rest
            ∙ ap (λ s. texts ++ rewritten_from line s) (next rest)
            ∙ ap (λ t. texts ++ t) (line_next line (drop (i + 1) chunk ++ rest) b z)
            ∙ sym (append_assoc texts (text_for line) (rewritten_from [] (drop (i + 1) chunk ++ rest)));
      }

  pub byte_told : (line' : List ℕ) → ((s : List ℕ) → rewritten_from line (b ∷ s) ≡ rewritten_from line' s) → At line₀ chunk texts line' (i + 1)
  byte_told line' n =
      record {
        read = omega (arith, m);
        room = omega (arith, h.room);
        told = λ rest.
            h.told rest ∙ ap (λ s. texts ++ rewritten_from line s) (next rest) ∙ ap (λ t. texts ++ t) (n (drop (i + 1) chunk ++ rest));
      }

pub all_told : (line₀ chunk texts line : List ℕ) (i : ℕ) → At line₀ chunk texts line i → length chunk ≤ i → Rewrites line₀ chunk texts line
all_told line₀ chunk texts line i h z rest =
    h.told rest ∙ ap (λ s. texts ++ rewritten_from line (s ++ rest)) (drop_of_length-le chunk z)

-- Writing a column and reading it gives the number; reading a column and writing the number gives the column. Assumes nothing.
use Prim.Native.Nat.{ℕ, zero, suc, ◌+◌, ◌-◌, ◌*◌, ◌/◌, ◌%◌, ◌^◌, ◌≤◌, ◌<◌}
use mathlib.Core.Path.{◌≡◌, refl, sym, ap, ◌∙◌}
use mathlib.Core.Bool.{Bool, true, false, cond}
use mathlib.Core.List.{List, [], ◌∷◌, ◌++◌, append_assoc, append-nil}
use native.Mathlib.Decide.{dec_lt}
use lib.Dec.{eqb, ltb, lit<}
use native.Mathlib.Nat.{pow-suc, add-suc, suc-add, add-zero, zero-mul, zero-add}
use native.Mathlib.Omega.{arith}
use borrow.Author.Tests.{le-leb, lt-ltb, le-ltb, ltb-true, ne_eqb, eqb-true, eqb-false}
use native.Mathlib.Numerals.{add-one}
use lib.ListN.{length, get_or, replicate, take, drop, length-append, length-replicate, take-append-drop, length-drop}
use lib.Seq.{take_at, drop_at, drop-drop, length-take-le}
use Rattle.std.proofs.Common.{Option, Some, None}
use Rattle.call_line.specs.Column.{ascii_nine, ascii_space, ascii_zero, is_digit, more, after_zero, digits_of, leading_spaces, column_of, column, start}
use Rattle.call_line.specs.Column.{total, cut, row}
use Rattle.call_line.specs.declared.Fields.{Fields}
use Rattle.call_line.specs.Line.{four, fields_in, fields}
use Rattle.call_line.proofs.Reading.{digit_bounds}
use Rattle.call_line.proofs.Columns.{Four, within}

spaces_move : (i : ℕ) (s : List ℕ) → ascii_space ∷ (replicate i ascii_space ++ s) ≡ replicate i ascii_space ++ (ascii_space ∷ s)
spaces_move zero s = refl
spaces_move (suc i) s = ap (λ (l : List ℕ). ascii_space ∷ l) (spaces_move i s)

-- spaces before a column say nothing
spaces : (k : ℕ) (s : List ℕ) → column_of (replicate k ascii_space ++ s) ≡ column_of s
unfolding column_of leading_spaces
spaces zero s = refl
spaces (suc k) s = spaces k s

-- a digit's byte, first and later
digit_byte : (d : ℕ) → d < 10 → is_digit (ascii_zero + d) ≡ true
unfolding is_digit
digit_byte d u = simp (le-leb ascii_zero (ascii_zero + d) (omega arith), le-leb (ascii_zero + d) ascii_nine (omega arith))

first_digit : (d : ℕ) (s : List ℕ) → 0 < d → d < 10 → column_of ((ascii_zero + d) ∷ s) ≡ more d s
unfolding column_of leading_spaces digits_of more
first_digit d s l u =
    simp (
      ne_eqb (ascii_zero + d) ascii_space (λ e. omega arith),
      ne_eqb (ascii_zero + d) ascii_zero (λ e. omega arith),
      digit_byte d u,
      lt-ltb (0 * 10 + (ascii_zero + d - ascii_zero)) (2 ^ 64) (omega arith),
    )
    (ap (λ (v : ℕ). more v s) (omega arith))

next_digit : (v d : ℕ) (s : List ℕ) → d < 10 → v * 10 + d < 2 ^ 64 → more v ((ascii_zero + d) ∷ s) ≡ more (v * 10 + d) s
unfolding more
next_digit v d s u f =
    simp (digit_byte d u, lt-ltb (v * 10 + (ascii_zero + d - ascii_zero)) (2 ^ 64) (omega arith))
    (ap (λ (v : ℕ). more v s) (omega arith))

-- the number written is the number that the rest goes on from
written : (w n : ℕ) (s : List ℕ) → 0 < n → n < 10 ^ w → n < 2 ^ 64 → column_of (column w n ++ s) ≡ more n s
unfolding column
written zero n s l u f = absurd (omega arith)
written (suc w) n s l u f = pick (written w (n / 10)) (dec_lt n 10)
  where
    pick :
        ((t : List ℕ) → 0 < n / 10 → n / 10 < 10 ^ w → n / 10 < 2 ^ 64 → column_of (column w (n / 10) ++ t) ≡ more (n / 10) t)
        → Dec (n < 10) → column_of (column (suc w) n ++ s) ≡ more n s
    pick ih (yes p) =
        simp (lt-ltb _ _ p, append_assoc, spaces)
        (ap (λ (d : ℕ). column_of ((ascii_zero + d) ∷ s)) (omega arith) ∙ first_digit n s l p)
    pick ih (no m) =
        let g : 10 ≤ n = omega (arith, m) in
        simp (le-ltb _ _ g, append_assoc)
        (ih ((ascii_zero + n % 10) ∷ s) (omega arith) (omega (arith, pow-suc 10 w)) (omega arith)
        ∙ next_digit (n / 10) (n % 10) s (omega arith) (omega arith)
        ∙ ap (λ (v : ℕ). more v s) (omega arith))

-- write, then read
pub read_written : (w n : ℕ) → 0 < w → n < 10 ^ w → n < 2 ^ 64 → column_of (column w n) ≡ Some n
unfolding column column_of leading_spaces digits_of more after_zero
read_written zero n l u f = absurd (omega arith)
read_written (suc w) zero l u f = spaces w (ascii_zero ∷ [])
read_written (suc w) (suc n) l u f =
    sym (ap column_of (append-nil (column (suc w) (suc n)))) ∙ written (suc w) (suc n) [] (omega arith) u f

-- more digits, read backwards: what a Some says of the bytes
record Digit (v b n : ℕ) (s : List ℕ) : Type 0 where
  low : ascii_zero ≤ b
  high : b ≤ ascii_nine
  fits : v * 10 + (b - ascii_zero) < 2 ^ 64
  rest : more (v * 10 + (b - ascii_zero)) s ≡ Some n

digit : (v b n : ℕ) (s : List ℕ) → more v (b ∷ s) ≡ Some n → Digit v b n s
unfolding more
digit v b n s e = pick (is_digit b) (ltb (v * 10 + (b - ascii_zero)) (2 ^ 64)) refl refl
  where
    pick : (t u : Bool) → is_digit b ≡ t → ltb (v * 10 + (b - ascii_zero)) (2 ^ 64) ≡ u → Digit v b n s
    pick true true p q = record { low = (digit_bounds b p).0; high = (digit_bounds b p).1; fits = ltb-true _ _ q; rest = simp (p, q) at e }
    pick true false p q =
        let w : None ≡ Some n = simp (p, q) at e in cc
    pick false u p q =
        let w : None ≡ Some n = simp p at e in cc

-- a digit more in a column
column_more : (w v b : ℕ) → 0 < v → ascii_zero ≤ b → b ≤ ascii_nine → column (suc w) (v * 10 + (b - ascii_zero)) ≡ column w v ++ (b ∷ [])
unfolding column
column_more w v b l lo hi =
    let g : 10 ≤ v * 10 + (b - ascii_zero) = omega arith in
    let q : (v * 10 + (b - ascii_zero)) / 10 ≡ v = omega arith in
    let r : ascii_zero + (v * 10 + (b - ascii_zero)) % 10 ≡ b = omega arith in
    simp (le-ltb _ _ g, q, r)

-- a column's first digit
column_first : (k b : ℕ) → ascii_zero ≤ b → b ≤ ascii_nine → column (suc k) (b - ascii_zero) ≡ replicate k ascii_space ++ (b ∷ [])
unfolding column
column_first k b lo hi =
    let g : b - ascii_zero < 10 = omega arith in
    let r : ascii_zero + (b - ascii_zero) % 10 ≡ b = omega arith in
    simp (lt-ltb _ _ g, r)

rest_is : (t : List ℕ) (w v n : ℕ) → 0 < v → more v t ≡ Some n → column w v ++ t ≡ column (w + length t) n
unfolding more
rest_is [] w v n l e = let q : v ≡ n = cc in simp (append-nil, add-zero, q)
rest_is (b ∷ t) w v n l e =
    let d = digit v b n t e in
    sym (append_assoc (column w v) (b ∷ []) t)
    ∙ ap (λ (x : List ℕ). x ++ t) (sym (column_more w v b l d.low d.high))
    ∙ rest_is t (suc w) (v * 10 + (b - ascii_zero)) n (omega arith) d.rest
    ∙ ap (λ (x : ℕ). column x n) (omega arith)

zero_is : (s : List ℕ) (k n : ℕ) → after_zero s ≡ Some n → replicate k ascii_space ++ (ascii_zero ∷ s) ≡ column (k + suc (length s)) n
unfolding after_zero
zero_is [] k n e = let q : 0 ≡ n = cc in rw (← q, add-suc, add-zero) (sym (column_first k ascii_zero (omega arith) (omega arith)))
zero_is (b ∷ s) k n e = cc

whole_is : (s : List ℕ) (k n : ℕ) → column_of s ≡ Some n → replicate k ascii_space ++ s ≡ column (k + length s) n
unfolding column_of leading_spaces digits_of
whole_is [] k n e = cc
whole_is (b ∷ s) k n e = blank (whole_is s (suc k) n) (eqb b ascii_space) refl
  where
    nought : (t : Bool) → eqb b ascii_space ≡ false → eqb b ascii_zero ≡ t → replicate k ascii_space ++ (b ∷ s) ≡ column (k + suc (length s)) n
    nought true f q = rw (eqb-true b ascii_zero q) (zero_is s k n (simp (f, q) at e))
    nought false f q =
        let d = digit 0 b n s (simp (f, q) at e) in
        let p : b ≡ ascii_zero → ⊥ = eqb-false b ascii_zero q in
        sym (append_assoc (replicate k ascii_space) (b ∷ []) s)
        ∙ ap (λ (x : List ℕ). x ++ s) (sym (column_first k b d.low d.high))
        ∙ rest_is s (suc k) (b - ascii_zero) n (omega (arith, d.low)) (rw (zero-mul 10, zero-add (b - ascii_zero)) at d.rest)
        ∙ ap (λ (x : ℕ). column x n) (omega arith)

    blank :
        (column_of s ≡ Some n → replicate (suc k) ascii_space ++ s ≡ column (suc k + length s) n) → (t : Bool) → eqb b ascii_space ≡ t
        → replicate k ascii_space ++ (b ∷ s) ≡ column (k + suc (length s)) n
    blank ih true q =
        rw (eqb-true b ascii_space q)
        (sym (spaces_move k s) ∙ ih (simp q at e) ∙ ap (λ (x : ℕ). column x n) (omega arith))
    blank ih false q = nought (eqb b ascii_zero) q refl

-- read, then write
pub written_read : (s : List ℕ) (n : ℕ) → column_of s ≡ Some n → column (length s) n ≡ s
written_read s n e = sym (rw zero-add at (whole_is s 0 n e))

-- a column of w places has room for n, and a reader takes it
abbrev pub Fits : ℕ → ℕ → Type 0
Fits w n = (n < 10 ^ w) × (n < 2 ^ 64)

-- so it is with what is read
more_fits : (t : List ℕ) (v n k : ℕ) → more v t ≡ Some n → Fits k v → Fits (k + length t) n
unfolding more
more_fits [] v n k e h = let q : v ≡ n = cc in rw (add-zero, ← q) h
more_fits (b ∷ t) v n k e h =
    let d = digit v b n t e in
    rw (add-suc, ← suc-add)
    (more_fits t (v * 10 + (b - ascii_zero)) n (suc k) d.rest (omega (arith, pow-suc 10 k, d.low, d.high, h.0), d.fits))

zero_fits : (s : List ℕ) (n : ℕ) → after_zero s ≡ Some n → Fits (suc (length s)) n
unfolding after_zero
zero_fits [] n e = let q : 0 ≡ n = cc in rw (← q) (lit< tt, lit< tt)
zero_fits (b ∷ s) n e = cc

read_fits : (s : List ℕ) (n : ℕ) → column_of s ≡ Some n → Fits (length s) n
unfolding column_of leading_spaces digits_of
read_fits [] n e = cc
read_fits (b ∷ s) n e = pick (read_fits s n) (eqb b ascii_space) refl
  where
    nought : (t : Bool) → eqb b ascii_space ≡ false → eqb b ascii_zero ≡ t → Fits (suc (length s)) n
    nought true f q = zero_fits s n (simp (f, q) at e)
    nought false f q = rw zero-add at (more_fits (b ∷ s) 0 n 0 (simp (f, q) at e) (lit< tt, lit< tt))

    pick : (column_of s ≡ Some n → Fits (length s) n) → (t : Bool) → eqb b ascii_space ≡ t → Fits (suc (length s)) n
    pick ih true q = let h = ih (simp q at e) in (omega (arith, pow-suc 10 (length s), h.0), h.1)
    pick ih false q = nought (eqb b ascii_zero) q refl

-- a column is as wide as asked
pub length_column : (w n : ℕ) → length (column w n) ≡ w
unfolding column
length_column zero n = refl
length_column (suc w) n =
    length-append (cond (ltb n 10) (replicate w ascii_space) (column w (n / 10))) ((ascii_zero + n % 10) ∷ [])
    ∙ ap (λ (k : ℕ). k + 1) (both (length_column w (n / 10)) (ltb n 10)) ∙ add-one w
  where
    both : length (column w (n / 10)) ≡ w → (t : Bool) → length (cond t (replicate w ascii_space) (column w (n / 10))) ≡ w
    both e true = length-replicate w ascii_space
    both e false = e

-- ---- columns beside each other

-- a row is as wide as its columns
pub length_row : (ws ns : List ℕ) → length ws ≡ length ns → length (row ws ns) ≡ total ws
unfolding row
length_row [] ns e = refl
length_row (w ∷ ws) [] e = absurd (omega arith)
length_row (w ∷ ws) (n ∷ ns) e = simp (length-append, length_column, length_row ws ns (omega arith))

-- its first k + 1 columns: the first k, and one more
pub row_more :
    (ws ns : List ℕ) → length ws ≡ length ns → (k : ℕ) → k < length ws
    → row (take (suc k) ws) (take (suc k) ns) ≡ row (take k ws) (take k ns) ++ column (get_or ws k 0) (get_or ns k 0)
unfolding row
row_more [] ns e k h = absurd (omega arith)
row_more (w ∷ ws) [] e k h = absurd (omega arith)
row_more (w ∷ ws) (n ∷ ns) e zero h = append-nil (column w n)
row_more (w ∷ ws) (n ∷ ns) e (suc k) h = rw (row_more ws ns (omega arith) k (omega arith), append_assoc)

pub length_row_first : (ws ns : List ℕ) → length ws ≡ length ns → (k : ℕ) → k ≤ length ws → length (row (take k ws) (take k ns)) ≡ start ws k
unfolding row
length_row_first ws ns e zero h = refl
length_row_first [] ns e (suc k) h = absurd (omega arith)
length_row_first (w ∷ ws) [] e (suc k) h = absurd (omega arith)
length_row_first (w ∷ ws) (n ∷ ns) e (suc k) h =
    simp (length-append, length_column, length_row_first ws ns (omega arith) k (omega arith))

-- its column j is the number j
pub cut_row :
    (ws ns : List ℕ) → length ws ≡ length ns → (j : ℕ) → j < length ws → cut ws j (row ws ns) ≡ column (get_or ws j 0) (get_or ns j 0)
unfolding row
cut_row [] ns e j h = absurd (omega arith)
cut_row (w ∷ ws) [] e j h = absurd (omega arith)
cut_row (w ∷ ws) (n ∷ ns) e zero h = take_at (column w n) (row ws ns) w (length_column w n)
cut_row (w ∷ ws) (n ∷ ns) e (suc j) h =
    ap (take (get_or ws j 0))
    (sym (drop-drop (start ws j) w (column w n ++ row ws ns))
    ∙ ap (drop (start ws j)) (drop_at (column w n) (row ws ns) w (length_column w n)))
    ∙ cut_row ws ns (omega arith) j (omega arith)

-- a text whose columns are the numbers is their row
pub row_of_cuts :
    (ws ns s : List ℕ) → length ws ≡ length ns → length s ≡ total ws
    → ((j : ℕ) → j < length ws → column (get_or ws j 0) (get_or ns j 0) ≡ cut ws j s) → row ws ns ≡ s
unfolding row
row_of_cuts [] ns [] e l h = refl
row_of_cuts [] ns (b ∷ s) e l h = absurd (omega arith)
row_of_cuts (w ∷ ws) [] s e l h = absurd (omega arith)
row_of_cuts (w ∷ ws) (n ∷ ns) s e l h =
    rw (
      h 0 (omega arith),
      row_of_cuts ws ns (drop w s) (omega arith) (omega (arith, length-drop w s))
          (λ j u. h (suc j) (omega arith) ∙ ap (take (get_or ws j 0)) (sym (drop-drop (start ws j) w s))),
    )
    (take-append-drop w s)

-- ---- a line

-- write a line, then read it
pub line_written :
    (ws : List ℕ) → Four ws → (k a b c : ℕ) → Fits (get_or ws 0 0) k → Fits (get_or ws 1 0) a → Fits (get_or ws 2 0) b → Fits (get_or ws 3 0) c
    → fields_in ws (row ws (k ∷ a ∷ b ∷ c ∷ [])) ≡ Some (fields (k ∷ a ∷ b ∷ c ∷ []))
unfolding fields_in four
line_written ws w k a b c fk fa fb fc =
    simp (
      column_read 0 k (lit< tt) refl fk,
      column_read 1 a (lit< tt) refl fa,
      column_read 2 b (lit< tt) refl fb,
      column_read 3 c (lit< tt) refl fc,
    )
  where
    ns : List ℕ
    ns = k ∷ a ∷ b ∷ c ∷ []

    column_read : (j n : ℕ) → j < 4 → get_or ns j 0 ≡ n → Fits (get_or ws j 0) n → column_of (cut ws j (row ws ns)) ≡ Some n
    column_read j n h e f =
        ap column_of (cut_row ws ns w.long j (omega (arith, w.long))) ∙ rw e (read_written (get_or ws j 0) n (w.places j h) f.0 f.1)

-- fields that were read are four numbers
were_four :
    (x y z w : Option ℕ) (k a b c : ℕ) → four x y z w ≡ Some (fields (k ∷ a ∷ b ∷ c ∷ []))
    → (x ≡ Some k) × (y ≡ Some a) × (z ≡ Some b) × (w ≡ Some c)
unfolding four
were_four (Some l) (Some m) (Some n) (Some o) k a b c e =
    let q : fields (l ∷ m ∷ n ∷ o ∷ []) ≡ fields (k ∷ a ∷ b ∷ c ∷ []) = cc in
    (ap (λ (f : Fields). Some f.kind) q, ap (λ (f : Fields). Some f.a) q, ap (λ (f : Fields). Some f.b) q, ap (λ (f : Fields). Some f.c) q)
were_four (Some l) (Some m) (Some n) None k a b c e = cc
were_four (Some l) (Some m) None w k a b c e = cc
were_four (Some l) None z w k a b c e = cc
were_four None y z w k a b c e = cc

module _ (ws : List ℕ) (w : Four ws) (s : List ℕ) (l : length s ≡ total ws) where
  length_cut : (j : ℕ) → j < 4 → length (cut ws j s) ≡ get_or ws j 0
  length_cut j h =
      length-take-le (get_or ws j 0) (drop (start ws j) s) (omega (arith, length-drop (start ws j) s, within ws j (omega (arith, w.long))))

  module _ (k a b c : ℕ) (e : fields_in ws s ≡ Some (fields (k ∷ a ∷ b ∷ c ∷ []))) where
    numbers : (column_of (cut ws 0 s) ≡ Some k) × (column_of (cut ws 1 s) ≡ Some a) × (column_of (cut ws 2 s) ≡ Some b) × (column_of (cut ws 3 s) ≡ Some c)
    unfolding fields_in
    numbers = were_four (column_of (cut ws 0 s)) (column_of (cut ws 1 s)) (column_of (cut ws 2 s)) (column_of (cut ws 3 s)) k a b c e

    field_fits : (j n : ℕ) → j < 4 → column_of (cut ws j s) ≡ Some n → Fits (get_or ws j 0) n
    field_fits j n h q = rw (length_cut j h) at (read_fits (cut ws j s) n q)

    pub fields_fit : (j : ℕ) → j < 4 → Fits (get_or ws j 0) (get_or (k ∷ a ∷ b ∷ c ∷ []) j 0)
    fields_fit zero h = field_fits 0 k h numbers.0
    fields_fit (suc zero) h = field_fits 1 a h numbers.1
    fields_fit (suc (suc zero)) h = field_fits 2 b h numbers.2
    fields_fit (suc (suc (suc zero))) h = field_fits 3 c h numbers.3
    fields_fit (suc (suc (suc (suc j)))) h = absurd (omega arith)

    -- read a line, then write it
    pub line_read : row ws (k ∷ a ∷ b ∷ c ∷ []) ≡ s
    line_read = row_of_cuts ws (k ∷ a ∷ b ∷ c ∷ []) s w.long l each
      where
        field : (j n : ℕ) → j < 4 → column_of (cut ws j s) ≡ Some n → column (get_or ws j 0) n ≡ cut ws j s
        field j n h q = ap (λ (x : ℕ). column x n) (sym (length_cut j h)) ∙ written_read (cut ws j s) n q

        each : (j : ℕ) → j < length ws → column (get_or ws j 0) (get_or (k ∷ a ∷ b ∷ c ∷ []) j 0) ≡ cut ws j s
        each zero h = field 0 k (lit< tt) numbers.0
        each (suc zero) h = field 1 a (lit< tt) numbers.1
        each (suc (suc zero)) h = field 2 b (lit< tt) numbers.2
        each (suc (suc (suc zero))) h = field 3 c (lit< tt) numbers.3
        each (suc (suc (suc (suc j)))) h = absurd (omega (arith, w.long))

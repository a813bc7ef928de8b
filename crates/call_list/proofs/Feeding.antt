-- Turns of `feed_all`, and what `feed` and `finish` leave. Assumes nothing.
use Rattle.std.proofs.Common.{◌≡◌, ℕ, ◌+◌, ◌/◌, ◌≤◌, ◌<◌, Bool, true, false, cond, ◌&&◌, List, [], ◌∷◌, ◌++◌, Some, None, Result, length, take, drop, refl, sym, ap, ◌∙◌, arith, length-drop}
use mathlib.Core.List.{append_assoc, append-nil}
use lib.ListN.{take-append-drop}
use lib.Dec.{eqb, leb}
use lib.Seq.{drop-drop, length-take-le}
use borrow.Author.Tests.{le-leb, lt-leb, eq-eqb, ne_eqb}
use Rattle.refusal.specs.declared.Refusal.{Refusal}
use Rattle.buffer.specs.Laid.{laid}
use Rattle.buffer.proofs.Laying.{take_laid, drop_laid, length_laid}
use Rattle.call_line.specs.Line.{line_of}
use Rattle.call_line.specs.declared.Call.{Call}
use Rattle.call_list.specs.declared.Reading.{Reading}
use Rattle.call_list.specs.Answer.{Machine, answered, call_after, after_of, reading_of, row_of}
use Rattle.call_list.specs.Feed.{Between, Run, kept, row_width, pushed, ended, step, runs, finished, start_of, left, left_by, fed, closed}
use Rattle.call_list.specs.Pieces.{line_end, kept_on, whole_call}
use Rattle.call_list.specs.Feeds.{here, Told, At}
use Rattle.call_list.proofs.KeptLines.{ends}
use Rattle.call_list.proofs.Lines.{no_line, one_line, taken}
use Rattle.call_list.proofs.Laying.{length_row}

-- ---- what was written before stands before what is written next

abbrev pub onto : List ℕ → Run → Run
onto o q = record { line = q.line; machine = q.machine; out = o ++ q.out }

step_onto : (r : Run) (o : List ℕ) (b : ℕ) → step (onto o r) b ≡ onto o (step r b)
unfolding step
step_onto r o b = pick (eqb b 10)
  where
    pick :
        (t : Bool)
        → cond t (ended (onto o r)) (record (onto o r) { line = pushed r.line b }) ≡ onto o (cond t (ended r) (record r { line = pushed r.line b }))
    pick true = rw append_assoc
    pick false = refl

pub runs_onto : (s : List ℕ) (r : Run) (o : List ℕ) → runs (onto o r) s ≡ onto o (runs r s)
unfolding runs
runs_onto [] r o = refl
runs_onto (b ∷ s) r o = ap (λ (q : Run). runs q s) (step_onto r o b) ∙ runs_onto s (step r b) o

runs_here : (p : Between) (o s : List ℕ) → runs (here p o) s ≡ onto o (runs (start_of p) s)
runs_here p o s = rw append-nil at (runs_onto s (start_of p) o)

-- ---- the next line

-- one that stands whole and is taken
pub whole_told :
    (p : Between) (s : List ℕ) (call : Call) (n : ℕ) (outcome : Result (Unit {0}) Refusal) (m : Machine) (shown : Reading)
    → length p.line ≡ 0 → whole_call s ≡ Some (call, n) → answered outcome m ≡ call_after p.machine call → shown ≡ reading_of m.controller
    → Told outcome n (record { line = p.line; counted = p.counted; machine = m }) shown p s
unfolding after_of
whole_told p s call n outcome m shown z e a r =
    let t = taken s call n e in
    let k : p.line ≡ [] = none p.line z in
    record { some = t.some; within = t.within; reading = r; same = t.tells (start_of p) k ∙ rw (← a, r, k) }
  where
    none : (l : List ℕ) → length l ≡ 0 → l ≡ []
    none [] z = refl
    none (b ∷ l) z = absurd (omega arith)

-- one that is read on from what is kept of it
pub line_told :
    (p : Between) (s line : List ℕ) (n : ℕ) (outcome : Result (Unit {0}) Refusal) (q : Between) (shown : Reading)
    → length p.line ≤ kept → line_end s ≡ Some n → line ≡ kept_on p.line s → answered outcome q.machine ≡ after_of p.machine (line_of line)
    → q.line ≡ [] → shown ≡ reading_of q.machine.controller → Told outcome n q shown p s
line_told p s line n outcome q shown h e l a z r =
    let x = ends s n e in
    record {
      some = omega (arith, x.1);
      within = omega (arith, x.0, x.1);
      reading = r;
      same = one_line (start_of p) s h n e ∙ rw (← l, ← a, r, z);
    }

-- and none
pub none_told :
    (p : Between) (s line : List ℕ) → length p.line ≤ kept → line_end s ≡ None → line ≡ kept_on p.line s
    → runs (start_of p) s ≡ record (start_of p) { line = line }
none_told p s line h e l = no_line (start_of p) s h e ∙ rw l

-- ---- the loop

module _ (out₀ : List ℕ) (end : Run) (out : List ℕ) (p : Between) (shown : Reading) (w : ℕ) (s : List ℕ) (h : At out₀ end out p shown w s) where
  module _ (outcome : Result (Unit {0}) Refusal) (n : ℕ) (p' : Between) (shown' : Reading) (t : Told outcome n p' shown' p s) where
    pub row_fits : w + row_width ≤ length out
    row_fits = omega (arith, h.room, t.some, t.within)

    abbrev row : List ℕ
    row = row_of outcome shown'

    pub row_put :
        (k : ℕ) (y : List ℕ) → k ≡ row_width → y ≡ row → At out₀ end (take w out ++ (y ++ drop k (drop w out))) p' shown' (w + row_width) (drop n s)
    row_put k y z e =
        let l : length row ≡ row_width = length_row outcome shown' in
        let out' = take w out ++ (y ++ drop k (drop w out)) in
        let o : out' ≡ laid w row out = rw (z, e, l, drop-drop) refl in
        let v : take (w + row_width) out' ≡ take w out ++ row = ap (take (w + row_width)) o ∙ take_laid w row_width row out l row_fits in
        let more : length out' ≡ length out = ap length o ∙ length_laid w row_width row out l row_fits in
        record {
          reading = t.reading;
          room = omega (arith, h.room, more, t.some, t.within, length-drop n s);
          same_length = more ∙ h.same_length;
          unwritten =
              ap (drop (w + row_width)) o ∙ drop_laid w row_width row out l row_fits
              ∙ sym (drop-drop row_width w out) ∙ ap (drop row_width) h.unwritten ∙ drop-drop row_width w out₀;
          same =
              h.same ∙ runs_here p (take w out) s ∙ ap (onto (take w out)) (t.same ∙ runs_here p' row (drop n s))
              ∙ sym (runs_here p' (take (w + row_width) out') (drop n s) ∙ rw (v, append_assoc) refl);
        }

  -- the chunk is at its end
  pub all_told : (p' : Between) → length p'.line ≡ p'.counted → runs (start_of p) s ≡ start_of p' → left (Some w) p' out ≡ left_by end out₀
  all_told p' n t =
      let k : length (take w out) ≡ w = length-take-le w out (omega (arith, h.room)) in
      rw (h.same ∙ runs_here p (take w out) s ∙ ap (onto (take w out)) t) (rw (append-nil, k, n, ← h.unwritten, take-append-drop) refl)

-- ---- the calls

pub line_no : (p : Between) (s out : List ℕ) → kept < p.counted → left None p out ≡ fed p s out
unfolding fed
line_no p s out l = rw (lt-leb _ _ l)

pub room_no : (p : Between) (s out : List ℕ) → length out / row_width < length s → left None p out ≡ fed p s out
unfolding fed
room_no p s out l = pick (leb p.counted kept)
  where
    pick : (t : Bool) → left None p out ≡ cond (t && leb (length s) (length out / row_width)) (left_by (runs (start_of p) s) out) (left None p out)
    pick true = rw (lt-leb _ _ l)
    pick false = refl

pub room_yes : (p : Between) (s out : List ℕ) → p.counted ≤ kept → length s ≤ length out / row_width → fed p s out ≡ left_by (runs (start_of p) s) out
unfolding fed
room_yes p s out k l = rw (le-leb _ _ k, le-leb _ _ l)

pub no_line_closed : (p : Between) (out : List ℕ) → kept < p.counted → left None p out ≡ closed p out
unfolding closed
no_line_closed p out l = rw (lt-leb _ _ l)

pub no_close : (p : Between) (out : List ℕ) → length out < row_width → left None p out ≡ closed p out
unfolding closed
no_close p out l = pick (leb p.counted kept)
  where
    pick : (t : Bool) → left None p out ≡ cond (t && leb 1 (length out / row_width)) (left_by (finished (start_of p)) out) (left None p out)
    pick true = let k : length out / row_width < 1 = omega arith in rw (lt-leb _ _ k)
    pick false = refl

pub close : (p : Between) (out : List ℕ) → p.counted ≤ kept → row_width ≤ length out → closed p out ≡ left_by (finished (start_of p)) out
unfolding closed
close p out n l = let k : 1 ≤ length out / row_width = omega arith in rw (le-leb _ _ n, le-leb _ _ k)

-- an empty line so far is none
pub none_closed :
    (p : Between) (out : List ℕ) → p.counted ≤ kept → row_width ≤ length out → length p.line ≡ p.counted → length p.line ≡ 0
    → left (Some 0) p out ≡ closed p out
none_closed p out n l k z = sym (close p out n l ∙ simp (eq-eqb _ _ z) (rw k refl))

pub line_closed :
    (p : Between) (out : List ℕ) (outcome : Result (Unit {0}) Refusal) (q : Between) (shown : Reading) (y : List ℕ)
    → p.counted ≤ kept → row_width ≤ length out → (length p.line ≡ 0 → ⊥) → answered outcome q.machine ≡ after_of p.machine (line_of p.line)
    → q.line ≡ [] → q.counted ≡ 0 → shown ≡ reading_of q.machine.controller → y ≡ row_of outcome shown
    → left (Some row_width) q (y ++ drop row_width out) ≡ closed p out
line_closed p out outcome q shown y m l n a z t r e =
    let k : length (row_of outcome (reading_of q.machine.controller)) ≡ row_width = length_row _ _ in
    sym (close p out m l ∙ simp (ne_eqb _ _ n) (rw (← a, k, e, r, ← z, ← t) refl))

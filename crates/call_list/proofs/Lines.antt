-- A run over the next line of a chunk. Assumes nothing.
use Rattle.std.proofs.Common.{◌≡◌, ℕ, ◌+◌, ◌≤◌, ◌<◌, Bool, true, false, cond, List, [], Option, Some, None, is_some, unwrap_or, Result, Ok, Err, length, take, drop, get_or, refl, sym, ap, ◌∙◌, arith, length-take, get_or-take}
use mathlib.Core.Bool.{true≢false}
use borrow.Author.Tests.{eq-eqb, ne_eqb, eqb-true, ltb-true}
use lib.Dec.{eqb, ltb, lit≤}
use lib.Seq.{take_all}
use Rattle.std.proofs.lemmas.List.Sums.{position_or_len_is}
use Rattle.std.proofs.lemmas.Bool.{and_parts}
use Rattle.call_line.specs.Column.{total}
use Rattle.call_line.specs.Line.{wide, narrow, line_of}
use Rattle.call_line.proofs.Clear.{taken_clear}
use Rattle.call_line.specs.declared.Call.{Call}
use Rattle.call_line.specs.declared.LineRefusal.{LineRefusal}
use Rattle.call_list.specs.Feed.{Run, kept, kept_of, pushed, told, ended, step, runs}
use Rattle.call_list.specs.Pieces.{is_newline, line_end, kept_on, newline_behind, standing, said, call_there, whole_call}
use Rattle.call_list.proofs.KeptLines.{newline_at, ByByte, ended_there, unended, line_ended}

-- ---- what comes of the next bytes: the run r with another line so far, and where a line has ended
module _ (r : Run) where
  abbrev pub run_of : List ℕ → List ℕ → Run
  run_of line s = runs (record r { line = line }) s

  abbrev pub run_after : List ℕ → List ℕ → Run
  run_after l s = runs (told r (line_of l)) s

  run_by_byte : ByByte run_of run_after
  unfolding runs step
  run_by_byte line b s h = pick (eqb b 10)
    where
      pick :
          (t : Bool)
          → (let q : Run = record r { line = line } in
          runs (cond t (ended q) (record q { line = pushed line b })) s
          ≡ cond t (run_after line s) (run_of (pushed line b) s))
      pick true = refl
      pick false = refl

  module _ (s : List ℕ) (h : length r.line ≤ kept) where
    pub no_line : line_end s ≡ None → runs r s ≡ record r { line = kept_on r.line s }
    unfolding runs
    no_line e = unended run_of run_after run_by_byte s r.line h e

    pub one_line : (n : ℕ) → line_end s ≡ Some n → runs r s ≡ runs (told r (line_of (kept_on r.line s))) (drop n s)
    one_line n e = line_ended run_of run_after run_by_byte s r.line h n e

-- ---- a line of w bytes that stands there whole

pub record Stands (w : ℕ) (s : List ℕ) : Type 0 where
  pub short : w ≤ kept
  pub long : w < length s
  pub newline : get_or s w 0 ≡ 10

pub stands : (s : List ℕ) (w : ℕ) → standing s ≡ Some w → Stands w s
unfolding standing newline_behind
stands s w e = pick (newline_behind (total narrow) s) (newline_behind (total wide) s) refl refl e
  where
    behind : (v : ℕ) → v ≤ kept → newline_behind v s ≡ true → Some v ≡ Some w → Stands w s
    behind v k b q =
        let h = and_parts (ltb v (length s)) (eqb (get_or s v 0) 10) b in
        let z : v ≡ w = ap (λ (o : Option ℕ). unwrap_or o 0) q in
        let x : Stands v s = record { short = k; long = ltb-true _ _ h.0; newline = eqb-true _ _ h.1 } in
        rw z at x

    pick :
        (n v : Bool) → newline_behind (total narrow) s ≡ n → newline_behind (total wide) s ≡ v
        → cond n (Some (total narrow)) (cond v (Some (total wide)) None) ≡ Some w → Stands w s
    pick true v p q e = behind (total narrow) (lit≤ tt) p e
    pick false true p q e = behind (total wide) (lit≤ tt) q e
    pick false false p q e = absurd (true≢false (sym (ap is_some e)))

-- and is taken: its bytes have no newline among them
whole_line :
    (r : Run) (w : ℕ) (s : List ℕ) (call : Call) → Stands w s → r.line ≡ [] → line_of (take w s) ≡ Ok call
    → runs r s ≡ runs (told r (Ok call)) (drop (w + 1) s)
unfolding kept_on is_newline
whole_line r w s call h z t =
    let l : length (take w s) ≡ w = omega (arith, length-take w s, h.long) in
    let clear : (k : ℕ) → k < w → is_newline (get_or s k 0) ≡ false =
    λ k m. ne_eqb _ _ (λ e. taken_clear (take w s) call t k (omega (arith, l)) (get_or-take _ _ _ _ m ∙ e)) in
    let at : newline_at s ≡ w = position_or_len_is is_newline s w 0 (omega (arith, h.long)) clear (λ m. eq-eqb _ _ h.newline) in
    let k : kept_of (take w s) ≡ take w s = take_all kept (take w s) (omega (arith, l, h.short)) in
    ended_there (run_of r) (run_after r) (run_by_byte r) s r.line (rw z (omega arith)) (rw at (h.long)) ∙ rw (z, at, k, t)

-- what `whole_call` answers
pub record Taken (s : List ℕ) (call : Call) (n : ℕ) : Type 0 where
  pub some : 0 < n
  pub within : n ≤ length s
  pub tells : (r : Run) → r.line ≡ [] → runs r s ≡ runs (told r (Ok call)) (drop n s)

pub taken : (s : List ℕ) (call : Call) (n : ℕ) → whole_call s ≡ Some (call, n) → Taken s call n
unfolding whole_call
taken s call n e = pick (standing s) refl e
  where
    named : (w : ℕ) → standing s ≡ Some w → (l : Result Call LineRefusal) → line_of (take w s) ≡ l → said l w ≡ Some (call, n) → Taken s call n
    named w p (Err refusal) t q = absurd (true≢false (sym (ap is_some q)))
    named w p (Ok other) t q =
        let h = stands s w p in
        let c : other ≡ call = ap (λ (o : Option (Call × ℕ)). (unwrap_or o (other, 0)).0) q in
        let z : w + 1 ≡ n = ap (λ (o : Option (Call × ℕ)). (unwrap_or o (other, 0)).1) q in
        record {
          some = omega (arith, z);
          within = omega (arith, z, h.long);
          tells = λ r k. rw z at (whole_line r w s call h k (t ∙ ap Ok c));
        }

    pick : (o : Option ℕ) → standing s ≡ o → call_there o s ≡ Some (call, n) → Taken s call n
    pick None p q = absurd (true≢false (sym (ap is_some q)))
    pick (Some w) p q = named w p (line_of (take w s)) refl q

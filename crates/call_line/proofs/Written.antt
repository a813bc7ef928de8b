-- A call written as a line: the two round trips, and the laws that `write_line` cites. Assumes nothing.
use Prim.Native.Nat.{ℕ, zero, suc, ◌+◌, ◌-◌, ◌^◌, ◌≤◌, ◌<◌}
use mathlib.Core.Path.{◌≡◌, refl, sym, ap, ◌∙◌}
use mathlib.Core.Bool.{Bool, true, false, cond}
use mathlib.Core.List.{List, [], ◌∷◌, ◌++◌, append_assoc, append-nil}
use mathlib.Core.Logic.{◌⊎◌, inl, inr, ⊎_elim}
use native.Mathlib.Decide.{dec_lt}
use native.Mathlib.Omega.{arith}
use native.Mathlib.Numerals.{add-one}
use native.Mathlib.Nat.{zero-add}
use borrow.Author.Tests.{lt-ltb, le-ltb, ltb-false}
use borrow.Rule.Slice.PartMut.{mid_of, put_mid, mid_len}
use denote.Array.{Array, each}
use denote.Laws.{Is}
use denote.Plain.{UInt}
use denote.Shadow.{shadow}
use mir.Syntax.{w64}
use mir.Val.{Val}
use lib.Dec.{ltb, lit<, lit≤}
use lib.ListN.{length, get_or, take, drop, set, length-append, length-drop, drop_of_length-le, get_or-eq_default}
use lib.Seq.{take_at, take_all, drop_at}
use Rattle.buffer.specs.Laid.{laid}
use Rattle.buffer.proofs.Laying.{mid_laid, byte_laid, length_laid, laid_twice}
use Rattle.std.proofs.Common.{Result, Ok, Err}
use Rattle.refusal.specs.Outcome.{and_then}
use Rattle.refusal.specs.declared.Refusal.{Refusal}
use Rattle.refusal.specs.declared.Refusal.TheVariants.{NoRoom}
use Rattle.refusal.proofs.Outcome.{both_ok}
use Rattle.packets.specs.Summary.{largest_packet}
use Rattle.packets.proofs.Totals.{packet_taken}
use Rattle.call_line.specs.declared.Call.{Call}
use Rattle.call_line.specs.declared.Call.TheVariants.{Estimate, Acknowledged, AlrOn, AlrOff, CapacityIs, CapacityNone, Packet, Report, Read, StartBytes, StartPackets}
use Rattle.call_line.specs.Column.{column, start, total, row}
use Rattle.call_line.specs.Line.{wide, narrow, in_table, unless_refused, by_flag, alr_of, capacity_of, packet_of, call_of}
use Rattle.call_line.specs.Line.{start_of, values_of, checked, told, said, line_of}
use Rattle.call_line.specs.Write.{ascii_newline, line_text, line_bytes, reread, check, write_outcome, written, OfType, ReadBack}
use Rattle.call_line.specs.Write.{CallChecks, Kept, WriteKeeps, WriteRead, ReadWrite, WideRead, NarrowRead, NarrowTaken, TwoWidths}
use Rattle.call_line.proofs.Columns.{starts_within, within, Shape, wide_shape, narrow_shape, Told, is_wide, is_narrow, other, told_by_length}
use Rattle.call_line.proofs.RoundTrip.{Fits, length_column, length_row, row_more, length_row_first}
use Rattle.call_line.proofs.Calls.{told_ok, taken_fields, four_values, four_long, call_read, values_fit, line_says}

-- ---- what a call is turned down with

-- the table allows every call, so that 1 does not come, and the fields are the call's own
pub call_checks : CallChecks
unfolding values_of reread checked in_table call_of alr_of capacity_of packet_of start_of by_flag unless_refused
call_checks (Estimate rate) = refl
call_checks (Acknowledged rate) = refl
call_checks (AlrOn start) = refl
call_checks AlrOff = refl
call_checks (CapacityIs rate) = refl
call_checks CapacityNone = refl
call_checks (Packet time lost size) = refl
call_checks (Report rate) = refl
call_checks Read = refl
call_checks StartBytes = refl
call_checks StartPackets = refl

-- ---- what is written is read

-- a call that is not turned down is read back as it is
read_same : (call : Call) → check call ≡ Ok tt → reread call ≡ Ok call
read_same call h = rw (call_checks call, h)

not_turned_down : (call found : Call) → reread call ≡ Ok found → check call ≡ Ok tt
not_turned_down call found e = pick (check call) (sym (call_checks call) ∙ e)
  where
    pick : (r : Result (Unit {0}) Refusal) → and_then r (λ _. Ok call) ≡ Ok found → r ≡ Ok tt
    pick (Ok x) q = refl
    pick (Err r) q = cc

-- of the four values the kind is below 9, and the size is one that is taken
kind_small : (call : Call) → get_or (values_of call) 0 0 < 9
unfolding values_of
kind_small (Estimate rate) = omega arith
kind_small (Acknowledged rate) = omega arith
kind_small (AlrOn start) = omega arith
kind_small AlrOff = omega arith
kind_small (CapacityIs rate) = omega arith
kind_small CapacityNone = omega arith
kind_small (Packet time lost size) = omega arith
kind_small (Report rate) = omega arith
kind_small Read = omega arith
kind_small StartBytes = omega arith
kind_small StartPackets = omega arith

size_small : (call : Call) → check call ≡ Ok tt → get_or (values_of call) 3 0 ≤ largest_packet
unfolding values_of
size_small (Estimate rate) h = omega arith
size_small (Acknowledged rate) h = omega arith
size_small (AlrOn start) h = omega arith
size_small AlrOff h = omega arith
size_small (CapacityIs rate) h = omega arith
size_small CapacityNone h = omega arith
size_small (Packet time lost size) h = (packet_taken _ h).size_within
size_small (Report rate) h = omega arith
size_small Read h = omega arith
size_small StartBytes h = omega arith
size_small StartPackets h = omega arith

-- a call is read from its text in columns of any widths in which its values have room
call_says_in :
    (ws : List ℕ) → Shape ws → (call : Call) → OfType call → ((j : ℕ) → j < 4 → get_or (values_of call) j 0 < 10 ^ get_or ws j 0) → check call ≡ Ok tt
    → line_of (row ws (values_of call)) ≡ Ok call
unfolding reread
call_says_in ws w call t f h =
    let fits : (j : ℕ) → j < 4 → Fits (get_or ws j 0) (get_or (values_of call) j 0) = λ j l. (f j l, t j) in
    ap (λ (ns : List ℕ). line_of (row ws ns)) (four_values call)
    ∙ line_says ws w _ _ _ _ (fits 0 (lit< tt)) (fits 1 (lit< tt)) (fits 2 (lit< tt)) (fits 3 (lit< tt))
    ∙ ap (told _) (read_same call h)

-- kind, A and B have room in both widths, and so the size decides
has_room :
    (ws : List ℕ) → 9 ≤ 10 ^ get_or ws 0 0 → 2 ^ 64 ≤ 10 ^ get_or ws 1 0 → 2 ^ 64 ≤ 10 ^ get_or ws 2 0 → (call : Call) → OfType call
    → get_or (values_of call) 3 0 < 10 ^ get_or ws 3 0 → (j : ℕ) → j < 4 → get_or (values_of call) j 0 < 10 ^ get_or ws j 0
has_room ws k a b call t s zero h = omega (arith, kind_small call)
has_room ws k a b call t s (suc zero) h = omega (arith, t 1)
has_room ws k a b call t s (suc (suc zero)) h = omega (arith, t 2)
has_room ws k a b call t s (suc (suc (suc zero))) h = s
has_room ws k a b call t s (suc (suc (suc (suc j)))) h = absurd (omega arith)

pub call_says : (call : Call) → OfType call → check call ≡ Ok tt → line_of (row wide (values_of call)) ≡ Ok call
call_says call t h =
    call_says_in wide wide_shape call t (has_room wide (lit≤ tt) (lit≤ tt) (lit≤ tt) call t (omega (arith, size_small call h))) h

pub narrow_taken : NarrowTaken
narrow_taken call t s h = call_says_in narrow narrow_shape call t (has_room narrow (lit≤ tt) (lit≤ tt) (lit≤ tt) call t s) h

-- ---- the round trips

text_wide : (call : Call) → length (row wide (values_of call)) ≡ total wide
text_wide call = length_row wide (values_of call) (sym (four_long call))

pub text_long : (call : Call) → length (line_text call) ≡ line_bytes
unfolding line_text
text_long call = length-append (row wide (values_of call)) (ascii_newline ∷ []) ∙ rw (text_wide call)

turned_down_first : (call : Call) (room : ℕ) → write_outcome call room ≡ Ok tt → check call ≡ Ok tt
unfolding write_outcome
turned_down_first call room h = both_ok (reread call) _ tt h (λ found e _. not_turned_down call found e)

-- what is written is read
pub write_read : WriteRead
unfolding written line_text
write_read call out t h =
    rw (h, append_assoc, take_at (row wide (values_of call)) (ascii_newline ∷ drop line_bytes out) (total wide) (text_wide call))
    (call_says call t (turned_down_first call (length out) h))

-- ---- what is read is written

-- the call of a line that is taken is read back, and is not turned down
taken_back : (s : List ℕ) (call : Call) → line_of s ≡ Ok call → reread call ≡ Ok call
unfolding reread line_of said
taken_back s call e = told_ok _ (reread call) call (sym (ap said (taken_fields s call e)) ∙ e)

pub taken_allowed : (s : List ℕ) (call : Call) → line_of s ≡ Ok call → check call ≡ Ok tt
taken_allowed s call e = not_turned_down call call (taken_back s call e)

pub wide_read : WideRead
wide_read s call l e = call_read wide wide_shape s l call e

pub narrow_read : NarrowRead
unfolding line_text
narrow_read s call l e =
    record {
      columns = call_read narrow narrow_shape s l call e;
      size = (values_fit narrow narrow_shape s l call e 3 (lit< tt)).0;
      rewritten = λ q. omega (arith, ap length q, text_long call, length-append s (ascii_newline ∷ []));
    }

pub two_widths : TwoWidths
unfolding line_of said
two_widths s call e = pick (told_by_length s)
  where
    pick : Told s → (length s ≡ total wide) ⊎ (length s ≡ total narrow)
    pick (is_wide l) = inl l
    pick (is_narrow l) = inr l
    pick (other u) = let q = ap said u in cc

-- and its numbers are of 64 bits
pub taken_of_type : (s : List ℕ) (call : Call) → line_of s ≡ Ok call → OfType call
taken_of_type s call e j = ⊎_elim (small wide wide_shape) (small narrow narrow_shape) (two_widths s call e)
  where
    small : (ws : List ℕ) → Shape ws → length s ≡ total ws → get_or (values_of call) j 0 < 2 ^ 64
    small ws w l = pick (dec_lt j 4)
      where
        pick : Dec (j < 4) → get_or (values_of call) j 0 < 2 ^ 64
        pick (yes h) = (values_fit ws w s l call e j h).1
        pick (no h) = rw (get_or-eq_default (values_of call) 0 {n = j} (omega (arith, h, four_long call))) (lit< tt)

pub read_write : ReadWrite
unfolding write_outcome written line_text
read_write s call w e out =
    let q : write_outcome call (length out) ≡ cond (ltb (length out) (length s + 1)) (Err NoRoom) (Ok tt) = rw (taken_back s call e, w) in
    record {
      refusal = q;
      text = λ h.
          let l : length s + 1 ≤ length out = omega arith in
          let z : write_outcome call (length out) ≡ Ok tt = q ∙ rw (le-ltb _ _ l) in
          rw (z, wide_read s call w e, w) (append_assoc s (ascii_newline ∷ []) (drop line_bytes out));
    }

-- ---- what stays

roomy : (call : Call) (room : ℕ) → write_outcome call room ≡ Ok tt → line_bytes ≤ room
unfolding write_outcome
roomy call room h = both_ok (reread call) _ tt h (λ found e q. pick (ltb room line_bytes) refl q)
  where
    pick : (t : Bool) → ltb room line_bytes ≡ t → ◌≡◌ {A = Result (Unit {0}) Refusal} (cond t (Err NoRoom) (Ok tt)) (Ok tt) → line_bytes ≤ room
    pick true p q = cc
    pick false p q = ltb-false _ _ p

pub write_keeps : WriteKeeps
unfolding written
write_keeps call out = pick (write_outcome call (length out)) refl
  where
    pick : (r : Result (Unit {0}) Refusal) → write_outcome call (length out) ≡ r → Kept call out
    pick (Ok x) q =
        let w = text_long call in
        record {
          refused = λ e n. cc;
          behind = rw q (drop_at (line_text call) (drop line_bytes out) line_bytes w);
          long = rw (q, length-append, w, length-drop) (omega (arith, roomy call (length out) q));
        }
    pick (Err e) q = record { refused = λ e n. rw q; behind = rw q; long = rw q }

pub room_enough : (call : Call) → check call ≡ Ok tt → write_outcome call line_bytes ≡ Ok tt
unfolding write_outcome
room_enough call h = rw (read_same call h)

-- a buffer as long as the line is filled with it
pub text_fills : (call : Call) (out : List ℕ) → write_outcome call line_bytes ≡ Ok tt → length out ≡ line_bytes → written call out ≡ line_text call
unfolding written
text_fills call out r m =
    let d : drop line_bytes out ≡ [] = drop_of_length-le out {i = line_bytes} (omega (arith, m)) in
    rw (m, r, d) (append-nil (line_text call))

-- ---- a line alone, which has room

-- what the writer answers there is the reader's checks
line_outcome : (call : Call) → write_outcome call line_bytes ≡ check call
unfolding write_outcome
line_outcome call = rw (call_checks call) (pick (check call))
  where
    pick : (r : Result (Unit {0}) Refusal) → and_then (and_then r (λ _. Ok call)) (λ _. Ok tt) ≡ r
    pick (Ok x) = refl
    pick (Err e) = refl

pub line_refused : (call : Call) (e : Refusal) → Err e ≡ write_outcome call line_bytes → and_then (check call) (λ _. Ok (line_text call)) ≡ Err e
line_refused call e h = rw (sym (h ∙ line_outcome call)) refl

pub line_whole :
    (call : Call) (out : List ℕ) → Ok tt ≡ write_outcome call line_bytes → length out ≡ line_bytes
    → Ok (written call out) ≡ and_then {E = Refusal} (check call) (λ _. Ok (line_text call))
line_whole call out h m = rw (text_fills call out (sym h) m, sym (h ∙ line_outcome call)) refl

-- ---- the columns, one after another

-- a part that was lent and written as a column
pub column_laid :
    (a e n : ℕ) (xs ys : List ℕ) → a ≤ e → e ≤ length xs → ys ≡ column (length (mid_of a (e - a) xs)) n
    → put_mid a (e - a) xs ys ≡ laid a (column (e - a) n) xs
column_laid a e n xs ys h l q =
    rw (q, mid_len a e xs l) (mid_laid a e xs (column (e - a) n) h (length_column (e - a) n))

-- the first k columns are written, and nothing behind them
abbrev pub FirstColumns : List ℕ → List ℕ → List ℕ → ℕ → Type 0
FirstColumns out₀ ns out k = out ≡ laid 0 (row (take k wide) (take k ns)) out₀

pub no_column : (out ns : List ℕ) → FirstColumns out ns out 0
unfolding row
no_column out ns = refl

module _ (out₀ ns out : List ℕ) (l : length wide ≡ length ns) (r : line_bytes ≤ length out₀) where
  pub columns_kept : (k : ℕ) → k ≤ 4 → FirstColumns out₀ ns out k → length out ≡ length out₀
  columns_kept k h c =
      ap length c ∙ length_laid 0 (start wide k) (row (take k wide) (take k ns)) out₀ (length_row_first wide ns l k h) (omega (arith, starts_within wide k h))

  -- one column more
  pub column_more :
      (k from w n : ℕ) (ys : List ℕ) → k < 4 → w ≡ get_or wide k 0 → n ≡ get_or ns k 0 → from ≡ start wide k → length out ≡ length out₀
      → ys ≡ column (length (mid_of from (from + w - from) out)) n → FirstColumns out₀ ns out k
      → FirstColumns out₀ ns (put_mid from (from + w - from) out ys) (k + 1)
  column_more k from w n ys h v m f e q c =
      let p = row (take k wide) (take k ns) in
      let z : from + w - from ≡ w = omega arith in
      let b = within wide k h in
      column_laid from (from + w) n out ys (omega arith) (omega arith) q
      ∙ rw (z, c, v, m, add-one, row_more wide ns l k h)
      (rw (zero-add from) at
      (laid_twice 0 from p out₀ (length_row_first wide ns l k (omega arith) ∙ sym f) (omega arith) (column (get_or wide k 0) (get_or ns k 0))))

  -- the newline behind the last
  pub newline_laid : FirstColumns out₀ ns out 4 → set out (total wide) ascii_newline ≡ (row wide ns ++ (ascii_newline ∷ [])) ++ drop line_bytes out₀
  newline_laid c =
      let w = length_row wide ns l in
      let f : 0 + length (row wide ns ++ (ascii_newline ∷ [])) ≡ line_bytes = simp (length-append, w) in
      rw (c, take_all 4 ns (omega arith), byte_laid out₀ (row wide ns) 0 (total wide) ascii_newline (omega arith) (omega arith), f)

-- ---- what `write_line` leaves

-- the numbers of an array of u64 have 64 bits
below : (ns : List ℕ) (vs : List Val) → shadow (each ℕ (UInt w64).own_val ns vs) → (j : ℕ) → get_or ns j 0 < 2 ^ 64
below [] vs s j = lit< tt
below (n ∷ ns) [] s j = absurd s
below (n ∷ ns) (v ∷ vs) s zero = s.0.1
below (n ∷ ns) (v ∷ vs) s (suc j) = below ns vs s.1 j

pub of_type : (call : Call) (ns : List ℕ) (vs : List Val) (n : ℕ) → ns ≡ values_of call → Is (Array (UInt w64) n) ns vs → OfType call
of_type call ns vs n e i j = rw (← e) (below ns _ i.1.1 j)

abbrev pub Wrote : Call → List ℕ → Result (Unit {0}) Refusal → List ℕ → Type 0
Wrote call out₀ r out = ((r ≡ write_outcome call (length out₀)) × (out ≡ written call out₀)) × ReadBack call r out

pub refused : (call : Call) (out : List ℕ) (e : Refusal) → write_outcome call (length out) ≡ Err e → Wrote call out (Err e) out
unfolding written
refused call out e h = ((sym h, rw h), λ z. cc)

pub turned_down : (call : Call) (out : List ℕ) (e : Refusal) → reread call ≡ Err e → Wrote call out (Err e) out
unfolding write_outcome
turned_down call out e h = refused call out e (rw h)

pub no_room : (call found : Call) (out : List ℕ) → reread call ≡ Ok found → length out < line_bytes → Wrote call out (Err NoRoom) out
unfolding write_outcome
no_room call found out e h = refused call out NoRoom (rw (e, lt-ltb _ _ h))

pub accepted :
    (call found : Call) (out₀ out : List ℕ) → OfType call → reread call ≡ Ok found → line_bytes ≤ length out₀
    → out ≡ line_text call ++ drop line_bytes out₀ → Wrote call out₀ (Ok tt) out
unfolding write_outcome written
accepted call found out₀ out t e h q =
    let z : write_outcome call (length out₀) ≡ Ok tt = rw (e, le-ltb _ _ h) in
    let w : out ≡ written call out₀ = q ∙ rw z in
    ((sym z, w), λ _. rw w (write_read call out₀ t z))

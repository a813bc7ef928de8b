-- Fed in any chunks, the program writes the answers to the lines of the whole input. Assumes nothing.
use Rattle.std.proofs.Common.{◌≡◌, ℕ, zero, suc, ◌+◌, ◌*◌, ◌/◌, ◌≤◌, Bool, true, false, cond, List, [], ◌∷◌, ◌++◌, Option, Some, None, is_some, unwrap_or, length, take, replicate, refl, sym, ap, ◌∙◌, arith, length-take}
use mathlib.Core.Bool.{true≢false}
use mathlib.Core.List.{append_assoc, append-nil}
use borrow.Author.Tests.{eq-eqb, ne_eqb}
use lib.Dec.{eqb, lit≤}
use lib.ListN.{length-replicate}
use lib.Seq.{take-append-add, take-nil, take_at}
use Rattle.call_line.specs.Line.{line_of}
use Rattle.call_list.specs.Answer.{Machine, fresh_machine, reading_of}
use Rattle.call_list.specs.Feed.{Between, Run, kept, kept_of, row_width, pushed, told, ended, step, runs, finished, fresh, start_of, left, left_by, roomy, fed, closed}
use Rattle.call_list.specs.Whole.{last_line, lines_from, lines_of, answered_line, answer_row, answers_to, joined, answers}
use Rattle.call_list.specs.Whole.{Reached, started, further, Program}
use Rattle.call_list.specs.Whole.{ended as whole_input}
use Rattle.call_list.proofs.KeptLines.{cut_line, kept_more, kept_short}
use Rattle.call_list.proofs.Laying.{length_row}
use Rattle.call_list.proofs.Feeding.{onto, runs_onto, room_yes, close}

-- ---- a run in the middle of a line

-- the run r has read l of the present line
abbrev Reads : Run → List ℕ → Type 0
Reads r l = r.line ≡ kept_of l

-- its end
ended_is : (r : Run) (l : List ℕ) → Reads r l → ended r ≡ told r (line_of l)
ended_is r l h = ap (told r) (ap line_of h ∙ cut_line l)

-- ---- byte by byte, and line by line

last_out : (r : Run) (l : List ℕ) → Reads r l → (finished r).out ≡ r.out ++ joined (answers_to r.machine (last_line l))
unfolding last_line answers_to joined
last_out r [] h = let z : length r.line ≡ 0 = rw h refl in simp (eq-eqb _ _ z) (sym (append-nil r.out))
last_out r (b ∷ l) h =
    let z : length r.line ≡ 0 → ⊥ = λ e. omega (arith, e, ap length h, length-take kept (b ∷ l)) in
    simp (ne_eqb _ _ z)
    (ap (λ (x : Run). x.out) (ended_is r (b ∷ l) h) ∙ ap (λ (x : List ℕ). r.out ++ x) (sym (append-nil (answer_row (answered_line r.machine (b ∷ l))))))

flow :
    (s : List ℕ) (r : Run) (l : List ℕ) → Reads r l → (finished (runs r s)).out ≡ r.out ++ joined (answers_to r.machine (lines_from l s))
unfolding runs step lines_from answers_to joined
flow [] r l h = last_out r l h
flow (b ∷ s) r l h = pick (flow s) (eqb b 10)
  where
    pick :
        ((q : Run) (k : List ℕ) → Reads q k → (finished (runs q s)).out ≡ q.out ++ joined (answers_to q.machine (lines_from k s)))
        → (t : Bool)
        → (finished (runs (cond t (ended r) (record r { line = pushed r.line b })) s)).out
        ≡ r.out ++ joined (answers_to r.machine (cond t (l ∷ lines_from [] s) (lines_from (l ++ (b ∷ [])) s)))
    pick ih true =
        ap (λ (x : Run). (finished (runs x s)).out) (ended_is r l h)
        ∙ ih (told r (line_of l)) [] refl
        ∙ append_assoc r.out (answer_row (answered_line r.machine l)) (joined (answers_to (answered_line r.machine l).machine (lines_from [] s)))
    pick ih false =
        ih (record r { line = pushed r.line b }) (l ++ (b ∷ [])) (ap (λ (k : List ℕ). kept_of (k ++ (b ∷ []))) h ∙ kept_more l (b ∷ []))

-- ---- chunk by chunk

finished_onto : (r : Run) (o : List ℕ) → (finished (onto o r)).out ≡ o ++ (finished r).out
finished_onto r o = pick (eqb (length r.line) 0)
  where
    pick : (t : Bool) → (cond t (onto o r) (ended (onto o r))).out ≡ o ++ (cond t r (ended r)).out
    pick true = refl
    pick false = rw append_assoc

runs_append : (s t : List ℕ) (r : Run) → runs r (s ++ t) ≡ runs (runs r s) t
unfolding runs
runs_append [] t r = refl
runs_append (b ∷ s) t r = runs_append s t (step r b)

-- a call that is taken leads to the run r
record Taken (p' : Between) (w : List ℕ) (r : Run) : Type 0 where
  next : r ≡ onto w (start_of p')
  wrote : w ≡ r.out

left_is : (r : Run) (out : List ℕ) (n : ℕ) → (left_by r out).written ≡ Some n → Taken (left_by r out).state (take n (left_by r out).out) r
left_is r out n e =
    let k : length r.out ≡ n = ap (λ (o : Option ℕ). unwrap_or o 0) e in
    let z : take n (left_by r out).out ≡ r.out = take_at r.out _ n k in
    record { next = rw (z, append-nil) refl; wrote = z }

fed_is : (p : Between) (c out : List ℕ) (n : ℕ) → (fed p c out).written ≡ Some n → Taken (fed p c out).state (take n (fed p c out).out) (runs (start_of p) c)
unfolding fed
fed_is p c out n e = pick (roomy p.counted (length c) (length out)) e
  where
    pick :
        (t : Bool)
        → (let x = cond t (left_by (runs (start_of p) c) out) (left None p out) in
        x.written ≡ Some n → Taken x.state (take n x.out) (runs (start_of p) c))
    pick true e = left_is (runs (start_of p) c) out n e
    pick false e = absurd (true≢false (sym (ap is_some e)))

closed_is : (p : Between) (out : List ℕ) (n : ℕ) → (closed p out).written ≡ Some n → take n (closed p out).out ≡ (finished (start_of p)).out
unfolding closed
closed_is p out n e = pick (roomy p.counted 1 (length out)) e
  where
    pick :
        (t : Bool)
        → (let x = cond t (left_by (finished (start_of p)) out) (left None p out) in
        x.written ≡ Some n → take n x.out ≡ (finished (start_of p)).out)
    pick true e = (left_is (finished (start_of p)) out n e).wrote
    pick false e = absurd (true≢false (sym (ap is_some e)))

pub joined_append : (cs : List (List ℕ)) (c : List ℕ) → joined (cs ++ (c ∷ [])) ≡ joined cs ++ c
unfolding joined
joined_append [] c = append-nil c
joined_append (b ∷ cs) c = ap (λ (x : List ℕ). b ++ x) (joined_append cs c) ∙ sym (append_assoc b (joined cs) c)

abbrev start : Run
start = start_of fresh

-- the chunks lead to where the program is, with what it has written
runs_to : {cs : List (List ℕ)} {w : List ℕ} {p : Between} → Reached cs w p → runs start (joined cs) ≡ onto w (start_of p)
unfolding joined runs
runs_to started = refl
runs_to (further {chunks = cs} {w = w} {p = p} c out n x e) =
    let t = fed_is p c out n e in
    ap (runs start) (joined_append cs c)
    ∙ runs_append (joined cs) c start
    ∙ ap (λ (q : Run). runs q c) (runs_to x)
    ∙ runs_onto c (start_of p) w
    ∙ ap (onto w) t.next
    ∙ rw append_assoc refl

-- the whole input's answers, byte by byte
whole : (input : List ℕ) → answers input ≡ (finished (runs start input)).out
unfolding answers
whole input = sym (flow input start [] refl)

-- "The program reads a call list from standard input": however the input is cut into chunks, what is written is the answers to its lines
pub in_chunks : (chunks : List (List ℕ)) (w : List ℕ) → Program chunks w → w ≡ answers (joined chunks)
in_chunks chunks _ (whole_input {w = w} {p = p} out n x e) =
    ap (λ (u : List ℕ). w ++ u) (closed_is p out n e)
    ∙ sym (finished_onto (start_of p) w)
    ∙ ap (λ (q : Run). (finished q).out) (sym (runs_to x))
    ∙ sym (whole (joined chunks))

-- and what is written before its end is the beginning of the answers, whatever follows
pub so_far :
    {chunks : List (List ℕ)} {w : List ℕ} {p : Between} → Reached chunks w p
    → (rest : List ℕ) → take (length w) (answers (joined chunks ++ rest)) ≡ w
so_far {chunks} {w} {p} x rest =
    let r = start_of p in
    ap (take (length w))
    (whole (joined chunks ++ rest)
    ∙ ap (λ (q : Run). (finished q).out) (runs_append (joined chunks) rest start ∙ ap (λ (q : Run). runs q rest) (runs_to x) ∙ runs_onto rest r w)
    ∙ finished_onto (runs r rest) w)
    ∙ take_at w (finished (runs r rest)).out (length w) refl

-- ---- the program's states are such as `feed` and `finish` take

runs_short : (s : List ℕ) (r : Run) → length r.line ≤ kept → length (runs r s).line ≤ kept
unfolding runs step
runs_short [] r h = h
runs_short (b ∷ s) r h = pick (runs_short s) (eqb b 10)
  where
    pick :
        ((q : Run) → length q.line ≤ kept → length (runs q s).line ≤ kept)
        → (t : Bool)
        → length (runs (cond t (ended r) (record r { line = pushed r.line b })) s).line ≤ kept
    pick ih true = ih (ended r) (lit≤ tt)
    pick ih false = ih (record r { line = pushed r.line b }) (kept_short (r.line ++ (b ∷ [])))

-- a line of no more bytes than are kept, all of them counted
pub record Short (p : Between) : Type 0 where
  pub line : length p.line ≤ kept
  pub counted : p.counted ≤ kept

fed_short : (p : Between) (c out : List ℕ) → Short p → Short (fed p c out).state
unfolding fed
fed_short p c out h = pick (roomy p.counted (length c) (length out))
  where
    pick : (t : Bool) → Short (cond t (left_by (runs (start_of p) c) out) (left None p out)).state
    pick true = let k = runs_short c (start_of p) h.line in record { line = k; counted = k }
    pick false = h

pub reached_short : {cs : List (List ℕ)} {w : List ℕ} {p : Between} → Reached cs w p → Short p
reached_short started = record { line = lit≤ tt; counted = lit≤ tt }
reached_short (further {p = p} c out n x e) = fed_short p c out (reached_short x)

-- ---- every list of chunks has such a run

abbrev room : ℕ → List ℕ
room n = replicate (row_width * n) 0

room_long : (n : ℕ) → n ≤ length (room n) / row_width
room_long n = let l : length (room n) ≡ row_width * n = length-replicate (row_width * n) 0 in omega (arith, l)

-- some run that was fed the chunks
record Somewhere (chunks : List (List ℕ)) : Type 0 where
  w : List ℕ
  state : Between
  reached : Reached chunks w state

one_more : (chunks : List (List ℕ)) (c : List ℕ) → Somewhere chunks → Somewhere (chunks ++ (c ∷ []))
one_more chunks c x =
    let e = ap (λ l. l.written) (room_yes x.state c (room (length c)) (reached_short x.reached).counted (room_long (length c))) in
    record { w = _; state = _; reached = further c (room (length c)) _ x.reached e }

onward : (cs chunks : List (List ℕ)) → Somewhere chunks → Somewhere (chunks ++ cs)
onward [] chunks x = rw (append-nil chunks) x
onward (c ∷ cs) chunks x = rw (append_assoc chunks (c ∷ []) cs) at (onward cs (chunks ++ (c ∷ [])) (one_more chunks c x))

-- whatever the chunks, the program answers them: with the answers to the lines of the whole input
pub every_list : (chunks : List (List ℕ)) → Program chunks (answers (joined chunks))
every_list chunks =
    let x = onward chunks [] (record { w = []; state = fresh; reached = started }) in
    let p : Program chunks _ = whole_input (room 1) _ x.reached (ap (λ l. l.written) (close x.state (room 1) (reached_short x.reached).counted (lit≤ tt))) in
    rw (in_chunks chunks _ p) at p

-- ---- the answer to a line hangs on the lines up to it alone

first_lines : (n : ℕ) (m : Machine) (ls : List (List ℕ)) → take (n * row_width) (joined (answers_to m ls)) ≡ joined (answers_to m (take n ls))
unfolding answers_to joined
first_lines zero m ls = refl
first_lines (suc n) m [] = take-nil (suc n * row_width)
first_lines (suc n) m (l ∷ ls) =
    let a = answered_line m l in
    let rest = joined (answers_to a.machine ls) in
    let z : length (answer_row a) ≡ row_width = length_row a.outcome (reading_of a.machine.controller) in
    let k : suc n * row_width ≡ length (answer_row a) + n * row_width = omega arith in
    ap (λ (j : ℕ). take j (answer_row a ++ rest)) k
    ∙ take-append-add (answer_row a) rest (n * row_width)
    ∙ ap (λ (x : List ℕ). answer_row a ++ x) (first_lines n a.machine ls)

-- so the first n answers are those to the first n lines, whatever follows them
pub first_answers : (n : ℕ) (input : List ℕ) → take (n * row_width) (answers input) ≡ joined (answers_to fresh_machine (take n (lines_of input)))
unfolding answers
first_answers n input = first_lines n fresh_machine (lines_of input)

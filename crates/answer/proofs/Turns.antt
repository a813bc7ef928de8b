-- A turn's bytes are fed, or the end of the input finishes. Assumes nothing.
use Rattle.std.proofs.Common.{ℕ, ◌≤◌, ◌≡◌, Bool, true, false, cond, Some, None, unwrap_or, List, [], ◌∷◌, ◌++◌, Option, arith, length, take, drop, refl, sym, ap, ◌∙◌, length-append}
use lib.Dec.{lit≤}
use Rattle.call_list.specs.declared.State.{State}
use Rattle.call_list.specs.Feed.{Between, Run as CallRun, kept, fresh, state_of, left, left_by, roomy, fed, closed, runs, start_of, finished}
use Rattle.call_list.specs.Whole.{answers, joined, Reached, started, further, ended}
use Rattle.call_list.proofs.Feeding.{room_yes, close}
use Rattle.call_list.proofs.Streaming.{in_chunks, so_far, joined_append, reached_short}
use Rattle.turns.specs.Texts.{Begins}
use Rattle.answer.specs.declared.Answering.{Answering}
use Rattle.answer.specs.Turn.{Run}

begun : (p : Between) → p ≡ fresh → Reached [] [] p
begun p e = rw e started

pub fresh_run : (a : Answering) → state_of a.state ≡ fresh → Run [] [] a
unfolding joined
fresh_run a e = record { chunks = []; cut = refl; reached = begun (state_of a.state) e }

-- ---- the room is enough

module _ (p : Between) (out : List ℕ) (room : length out ≡ 770048) where
  fed_room : (c : List ℕ) → p.counted ≤ kept → length c ≤ 16384 → fed p c out ≡ left_by (runs (start_of p) c) out
  fed_room c k few = room_yes p c out k (rw room (omega (arith, few)))

  close_room : p.counted ≤ kept → closed p out ≡ left_by (finished (start_of p)) out
  close_room k = close p out k (rw room (lit≤ tt))

-- what is written is some of it, none where nothing is taken
part_written :
    (t : Bool) (r : CallRun) (p : Between) (out : List ℕ)
    → (let x = cond t (left_by r out) (left None p out) in unwrap_or x.written 0 ≤ length x.out)
part_written true r p out = omega (arith, length-append r.out (drop (length r.out) out))
part_written false r p out = omega arith

part_fed : (p : Between) (c out : List ℕ) → unwrap_or (fed p c out).written 0 ≤ length (fed p c out).out
unfolding fed
part_fed p c out = part_written (roomy p.counted (length c) (length out)) (runs (start_of p) c) p out

part_closed : (p : Between) (out : List ℕ) → unwrap_or (closed p out).written 0 ≤ length (closed p out).out
unfolding closed
part_closed p out = part_written (roomy p.counted 1 (length out)) (finished (start_of p)) p out

module _ (o : Option ℕ) (n : ℕ) (e : n ≡ unwrap_or o 0) (q : Between) (out : List ℕ) (p : Between) (out₀ : List ℕ) where
  pub fed_fits : (c : List ℕ) → left o q out ≡ fed p c out₀ → n ≤ length out
  fed_fits c x = rw (e, ap (λ l. l.written) x, ap (λ l. l.out) x) (part_fed p c out₀)

  pub closed_fits : left o q out ≡ closed p out₀ → n ≤ length out
  closed_fits x = rw (e, ap (λ l. l.written) x, ap (λ l. l.out) x) (part_closed p out₀)

-- ---- what the turns leave

module _ (a : Answering) (room : length a.room ≡ 770048) (input w : List ℕ) (r : Run input w a) where
  module _ (o : Option ℕ) (n : ℕ) (e : n ≡ unwrap_or o 0) (p : State) (out : List ℕ) where
    pub fed_on :
        (c : List ℕ) → length c ≤ 16384 → left o (state_of p) out ≡ fed (state_of a.state) c a.room
        → Run (input ++ c) (w ++ take n out) (record { state = p; room = out }) × Begins answers (input ++ c) (w ++ take n out)
    fed_on c few x =
        let taken = ap (λ l. l.written) (fed_room (state_of a.state) a.room room c (reached_short r.reached).counted few) in
        let n_is = e ∙ ap (λ v. unwrap_or v 0) (ap (λ l. l.written) x ∙ taken) in
        let cut : joined (r.chunks ++ (c ∷ [])) ≡ input ++ c = joined_append r.chunks c ∙ ap (λ l. l ++ c) r.cut in
        let reached : Reached (r.chunks ++ (c ∷ [])) (w ++ take n out) (state_of p) =
        rw (ap (λ l. l.out) (sym x), ap (λ l. l.state) (sym x)) at (further c a.room n r.reached (taken ∙ ap Some (sym n_is))) in
        (record { chunks = r.chunks ++ (c ∷ []); cut = cut; reached = reached }, λ rest. rw (sym cut) (so_far reached rest))

    pub all_answered : left o (state_of p) out ≡ closed (state_of a.state) a.room → w ++ take n out ≡ answers input
    all_answered x =
        let taken = ap (λ l. l.written) (close_room (state_of a.state) a.room room (reached_short r.reached).counted) in
        let n_is = e ∙ ap (λ v. unwrap_or v 0) (ap (λ l. l.written) x ∙ taken) in
        let q = rw (ap (λ l. l.out) (sym x)) at (ended a.room n r.reached (taken ∙ ap Some (sym n_is))) in
        in_chunks r.chunks _ q ∙ ap answers r.cut

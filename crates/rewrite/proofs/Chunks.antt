-- In any chunks, the program writes the texts of the lines of the whole input. Assumes nothing.
use Rattle.std.proofs.Common.{ℕ, ◌≤◌, ◌≡◌, Bool, true, false, List, [], ◌∷◌, ◌++◌, length, take, refl, sym, ap, ◌∙◌, append_assoc, append-nil}
use native.Mathlib.Decide.{dec_le}
use Rattle.std.proofs.lemmas.Bool.{eqb-true, eqb-false}
use lib.Dec.{eqb}
use lib.Seq.{take_at}
use Rattle.call_list.specs.Feed.{kept}
use Rattle.call_list.specs.Whole.{joined}
use Rattle.call_list.proofs.Streaming.{joined_append}
use Rattle.turns.specs.Texts.{Begins}
use Rattle.rewrite.specs.declared.Rewriting.{Rewriting}
use Rattle.rewrite.specs.Rewrite.{text_for, rewritten_from, rewritten, Rewrites}
use Rattle.rewrite.proofs.Telling.{line_next, byte_next, byte_lost}
use Rattle.rewrite.specs.Program.{Reached, started, fed, Program, ended, Run}

-- ---- chunk by chunk

-- whatever follows is told after what was written, from the line that is left
texts_so_far :
    {cs : List (List ℕ)} {w line : List ℕ} → Reached cs w line
    → (rest : List ℕ) → rewritten (joined cs ++ rest) ≡ w ++ rewritten_from line rest
unfolding joined
texts_so_far started rest = refl
texts_so_far (fed {chunks = cs} {w = w} {line = line} c text line' x b) rest =
    ap (λ (s : List ℕ). rewritten (s ++ rest)) (joined_append cs c)
    ∙ ap rewritten (append_assoc (joined cs) c rest)
    ∙ texts_so_far x (c ++ rest)
    ∙ ap (λ (t : List ℕ). w ++ t) (b rest)
    ∙ sym (append_assoc w text (rewritten_from line' rest))

-- however the input is cut into chunks, what is written is the texts of its lines
pub in_chunks : (chunks : List (List ℕ)) (w : List ℕ) → Program chunks w → w ≡ rewritten (joined chunks)
in_chunks chunks _ (ended {w = w} {line = line} text x e) =
    ap (λ (t : List ℕ). w ++ t) e ∙ sym (texts_so_far x []) ∙ ap rewritten (append-nil (joined chunks))

-- and what is written before its end is the beginning of them, whatever follows
so_far : {chunks : List (List ℕ)} {w line : List ℕ} → Reached chunks w line → Begins rewritten (joined chunks) w
so_far {w = w} {line = line} x rest =
    ap (take (length w)) (texts_so_far x rest) ∙ take_at w (rewritten_from line rest) (length w) refl

-- ---- every list of chunks has such a run

-- some call of `rewrite` on c
record Some (line c : List ℕ) : Type 0 where
  text : List ℕ
  left : List ℕ
  rewrites : Rewrites line c text left

some_on : (line line' c : List ℕ) (b : ℕ) → ((s : List ℕ) → rewritten_from line (b ∷ s) ≡ rewritten_from line' s) → Some line' c → Some line (b ∷ c)
some_on line line' c b n y = record { text = y.text; left = y.left; rewrites = λ rest. n (c ++ rest) ∙ y.rewrites rest }

some : (c line : List ℕ) → Some line c
some [] line = record { text = []; left = line; rewrites = λ rest. refl }
some (b ∷ c) line = pick (eqb b 10) refl (some c []) (dec_le kept (length line)) (some c line) (some c (line ++ (b ∷ [])))
  where
    pick : (t : Bool) → eqb b 10 ≡ t → Some [] c → Dec (kept ≤ length line) → Some line c → Some (line ++ (b ∷ [])) c → Some line (b ∷ c)
    pick true e y d full more =
        record {
          text = text_for line ++ y.text;
          left = y.left;
          rewrites = λ rest.
              line_next line (c ++ rest) b (eqb-true b 10 e)
              ∙ ap (λ t. text_for line ++ t) (y.rewrites rest)
              ∙ sym (append_assoc (text_for line) y.text (rewritten_from y.left rest));
        }
    pick false e y (yes h) full more = some_on line line c b (λ s. byte_lost line s b (eqb-false b 10 e) h) full
    pick false e y (no h) full more = some_on line (line ++ (b ∷ [])) c b (λ s. byte_next line s b (eqb-false b 10 e)) more

-- some run that was fed the chunks
record Somewhere (chunks : List (List ℕ)) : Type 0 where
  w : List ℕ
  line : List ℕ
  reached : Reached chunks w line

one_more : (chunks : List (List ℕ)) (c : List ℕ) → Somewhere chunks → Somewhere (chunks ++ (c ∷ []))
one_more chunks c x =
    let y = some c x.line in
    record { w = x.w ++ y.text; line = y.left; reached = fed c y.text y.left x.reached y.rewrites }

onward : (cs chunks : List (List ℕ)) → Somewhere chunks → Somewhere (chunks ++ cs)
onward [] chunks x = rw (append-nil chunks) x
onward (c ∷ cs) chunks x = rw (append_assoc chunks (c ∷ []) cs) at (onward cs (chunks ++ (c ∷ [])) (one_more chunks c x))

-- whatever the chunks, the program writes them anew: the texts of the lines of the whole input
pub every_list : (chunks : List (List ℕ)) → Program chunks (rewritten (joined chunks))
every_list chunks =
    let x = onward chunks [] (record { w = []; line = []; reached = started }) in
    let p : Program chunks _ = ended (rewritten_from x.line []) x.reached refl in
    rw (in_chunks chunks _ p) at p

-- ---- the program's turns

pub fresh_run : (r : Rewriting) → r.line.items ≡ [] → Run [] [] r
unfolding joined
fresh_run r e = record { chunks = []; cut = refl; reached = rw e started }

module _ (input w : List ℕ) (r : Rewriting) (x : Run input w r) (text : List ℕ) where
  pub fed_on :
      (r' : Rewriting) (c : List ℕ) → Rewrites r.line.items c text r'.line.items
      → Run (input ++ c) (w ++ text) r' × Begins rewritten (input ++ c) (w ++ text)
  fed_on r' c b =
      let cut : joined (x.chunks ++ (c ∷ [])) ≡ input ++ c = joined_append x.chunks c ∙ ap (λ l. l ++ c) x.cut in
      let reached : Reached (x.chunks ++ (c ∷ [])) (w ++ text) r'.line.items = fed c text r'.line.items x.reached b in
      (record { chunks = x.chunks ++ (c ∷ []); cut = cut; reached = reached }, λ rest. rw (sym cut) (so_far reached rest))

  pub all_rewritten : text ≡ rewritten_from r.line.items [] → w ++ text ≡ rewritten input
  all_rewritten e = in_chunks x.chunks _ (ended text x.reached e) ∙ ap rewritten x.cut

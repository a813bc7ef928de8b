-- The turns of a program whose output is a text of its input. Assumes nothing.
use Rattle.std.proofs.Common.{ℕ, ◌≡◌, ◌<◌, ◌≤◌, ◌+◌, List, [], ◌++◌, Result, Ok, Err, length, take, refl, sym, ap, ◌∙◌, arith, length-append}
use Rattle.std.proofs.KnownBytes.{Appends-nil, Appends-trans}
use Rattle.std.proofs.Math.Seq.{take-append-add}
use Rattle.std.proofs.lemmas.List.{take-take}
use mathlib.Core.List.{append_assoc, append-nil}
use lib.Seq.{length-take-le, take-length}
use Rattle.streams.specs.Streams.{WritesAll}
use Rattle.turns.specs.Turns.{Held, Feeds, Finishes}
use Rattle.turns.specs.Texts.{Begins, Reaches, Begun, Whole, Parted}

-- where a write takes n of the bytes, a beginning was written all the same
part_begins :
    (all w bytes : List ℕ) (n : ℕ) → n < length bytes → take (length (w ++ bytes)) all ≡ w ++ bytes
    → take (length (w ++ take n bytes)) all ≡ w ++ take n bytes
part_begins all w bytes n h b =
    let m : length w + n ≤ length (w ++ bytes) = omega (arith, length-append w bytes, h) in
    ap (λ k. take k all) (length-append w (take n bytes) ∙ ap (λ k. length w + k) (length-take-le n bytes (omega (arith, h))))
    ∙ sym (take-take (length w + n) (length (w ++ bytes)) all m)
    ∙ ap (take (length w + n)) b
    ∙ take-append-add w bytes n

module _ {S : Type 0} (text : List ℕ → List ℕ) (Run : List ℕ → List ℕ → S → Type 0) where
  pub begins : (s : S) (start : Held) → Run [] [] s → Reaches text Run [] s start start
  begins s start x = record { w = []; run = x; written = Appends-nil start; beginning = λ rest. refl }

  -- a chunk that is not taken leads to nothing
  pub turned_down : (a : S) (held : Held) (c input : List ℕ) (start : Held) → Reaches text Run input a start held → Begun text Run (input ++ c) start held
  turned_down a held c input start x = record {
    before = input;
    chunk = c;
    cut = refl;
    state = a;
    done = x.w;
    run = x.run;
    part = [];
    written = rw append-nil x.written;
    beginning = λ rest. rw (append-nil, append_assoc) (x.beginning (c ++ rest));
  }

  -- a run from a on, and what the turn hands to the write
  module _ (a : S) (held held' : Held) (bytes : List ℕ) where
    pub feeds :
        {E : Type 0} (b : S) (c : List ℕ) (r : Result (Unit {0}) E) → WritesAll r held held' bytes
        → ((input w : List ℕ) → Run input w a → Run (input ++ c) (w ++ bytes) b × Begins text (input ++ c) (w ++ bytes))
        → Feeds (Reaches text Run) (Begun text Run) r a b c held held'
    feeds b c (Ok u) wrote on =
        λ input start x. record {
          w = x.w ++ bytes;
          run = (on input x.w x.run).0;
          written = Appends-trans start held held' x.w bytes x.written wrote;
          beginning = (on input x.w x.run).1;
        }
    feeds b c (Err u) wrote on =
        λ input start x. record {
          before = input;
          chunk = c;
          cut = refl;
          state = a;
          done = x.w;
          run = x.run;
          part = take wrote.0 bytes;
          written = Appends-trans start held held' x.w (take wrote.0 bytes) x.written wrote.2;
          beginning = λ rest. part_begins (text ((input ++ c) ++ rest)) x.w bytes wrote.0 wrote.1 ((on input x.w x.run).1 rest);
        }

    pub finishes :
        {E : Type 0} (r : Result (Unit {0}) E) → WritesAll r held held' bytes → ((input w : List ℕ) → Run input w a → w ++ bytes ≡ text input)
        → Finishes (Reaches text Run) (Whole text) (Parted text Run) r a held held'
    finishes (Ok u) wrote all =
        λ input start x. rw (sym (all input x.w x.run)) (Appends-trans start held held' x.w bytes x.written wrote)
    finishes (Err u) wrote all =
        λ input start x. record {
          state = a;
          done = x.w;
          run = x.run;
          part = take wrote.0 bytes;
          written = Appends-trans start held held' x.w (take wrote.0 bytes) x.written wrote.2;
          beginning = part_begins (text input) x.w bytes wrote.0 wrote.1 (rw (all input x.w x.run) (take-length (text input)));
        }

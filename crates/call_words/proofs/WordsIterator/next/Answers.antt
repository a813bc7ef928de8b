-- The next word. Assumes nothing.
use Rattle.std.proofs.Common.{◌≡◌, ◌∷◌, length, ap, arith, rules}
use Rattle.std.proofs.lemmas.Bool.Decides.{nat_tests}
use Rattle.call_words.specs.Words.{words_in, is_blank, is_other}
use Rattle.call_words.proofs.Splitting.{no_more, one_more}
use Rattle.call_words.proofs.WordsIterator.next.Goals as goal

pub returns-then-is_empty-clause-steps : goal.returns-then-is_empty-clause-steps
unfolding is_other
returns-then-is_empty-clause-steps c =
    no_more _ _ (c.cut.ensures is_other (λ b r h. search rules)).1 (grind (arith, nat_tests))

word : (c : goal.After-rest-2-1) → words_in c.args.self.now.rest.now ≡ c.cut-2.result.0.now ∷ words_in c.cut-2.result.1.now
unfolding is_other
word c =
    let w = c.cut-2.ensures is_blank (λ b r h. search rules) in
    one_more _ _ (c.cut.ensures is_other (λ b r h. search rules)).1 _ _ (grind (arith, nat_tests)) w.0 w.1

pub returns-clause-steps : goal.returns-clause-steps
returns-clause-steps c = word c

pub returns-clause-goes : goal.returns-clause-goes
returns-clause-goes c =
    record {
      on = λ f. (tt, tt, omega (arith, ap length (word c)));
      keeps = tt;
      rests = λ f. tt;
    }

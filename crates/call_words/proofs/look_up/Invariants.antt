-- `look_up` meets its contract: the word is looked up in what is ahead. Assumes nothing.
use Rattle.std.proofs.Common.{◌≡◌, map}
use Rattle.call_words.specs.Words.{look_up}
use Rattle.call_words.proofs.Saying.{ahead}
use Rattle.call_words.proofs.look_up.Given as goal

abbrev pub invariant-loop-entry : goal.invariant-loop-entry
invariant-loop-entry g l = look_up (map (λ entry. (entry.0.now, entry.1)) l.table) l.word ≡ look_up (ahead l.table l.entry-index) l.word

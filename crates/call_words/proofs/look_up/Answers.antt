-- `look_up` meets its contract: the word is looked up in what is ahead. Assumes nothing.
use Rattle.std.proofs.Common.{sym, ◌∙◌, arith}
use Rattle.call_words.proofs.Saying.{no_entry, entry_here, entry_ahead}
use Rattle.call_words.proofs.look_up.Goals as goal

pub returns-then-eq : goal.returns-then-eq
returns-then-eq g c =
    sym
    (c.loop-entry.invariant
    ∙ entry_here _ _ _ c.entry-item.result c.loop-entry-test.true c.entry-item.is (sym c.eq.ensures ∙ c.if-eq.true))

pub loop-entry-preserved : goal.loop-entry-preserved
loop-entry-preserved g c =
    c.loop-entry.invariant
    ∙ entry_ahead _ _ _ c.entry-item.result c.loop-entry-test.true c.entry-item.is (sym c.eq.ensures ∙ c.if-eq.false)

pub returns : goal.returns
returns g c = sym (c.loop-entry.invariant ∙ no_entry _ _ c.loop-entry.entry-index (omega arith))

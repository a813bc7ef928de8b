-- `read_rate` meets its contract. Assumes nothing.
use Rattle.std.proofs.Common.{sym, ap, ◌∙◌}
use Rattle.std.specs.Float.Ieee.{of_bits, to_bits}
use Rattle.call_words.specs.Words.{same}
use Rattle.call_words.proofs.Numbers.{rate_inf}
use Rattle.call_words.proofs.read_rate.Goals as goal

pub returns-then-eq : goal.returns-then-eq
unfolding of_bits to_bits
returns-then-eq c =
    let e = sym c.eq.ensures ∙ c.if-eq.true in
    rw (rate_inf c.args.word.now (ap (same c.args.word.now) (sym c.as_slice.ensures) ∙ e), c.to_bits.ensures)

-- A call that was read is not turned down. Assumes nothing.
use Rattle.std.proofs.Common.{sym, ◌∙◌, rules}
use Rattle.call_line.proofs.Written.{taken_allowed}
use Rattle.rewrite.proofs.put_line.Goals as goal

pub unwrap-text-requires : goal.unwrap-text-requires
unwrap-text-requires c = rw (c.line.ensures, taken_allowed c.args.line.now _ (sym c.read_line.ensures ∙ c.in-Ok.is)) (search rules)

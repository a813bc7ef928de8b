-- `write_call` meets its contract: a call that is not refused has a line. Assumes nothing.
use Rattle.std.proofs.Common.{rules}
use Rattle.make_list.proofs.write_call.Goals as goal

pub unwrap-text-requires : goal.unwrap-text-requires
unwrap-text-requires g c = rw (c.line.ensures, c.requires) (search rules)

-- The text of a line: how wide it is. Assumes nothing.
use Rattle.std.proofs.Common.{◌≡◌, ◌≤◌, length, Result, Ok, Err, arith, length-append}
use Rattle.call_line.specs.Write.{line_bytes}
use Rattle.call_line.specs.declared.Call.{Call}
use Rattle.call_line.specs.declared.LineRefusal.{LineRefusal}
use Rattle.call_line.specs.declared.LineRefusal.TheVariants.{Report, Other}
use Rattle.refusal.specs.declared.Refusal.{Refusal}
use Rattle.call_line.proofs.RoundTrip.{length_column}
use Rattle.call_line.proofs.Written.{text_long}
use Rattle.rewrite.specs.Rewrite.{refusal_text, answer_text}

refusal_wide : (refusal : Refusal) → length (refusal_text refusal) ≡ 3
unfolding refusal_text
refusal_wide refusal = simp (length-append, length_column)

pub no_wider : (l : Result Call LineRefusal) → length (answer_text l) ≤ line_bytes
no_wider (Ok call) = omega (arith, text_long call)
no_wider (Err (Report refusal)) = omega (arith, refusal_wide refusal)
no_wider (Err (Other refusal)) = omega (arith, refusal_wide refusal)

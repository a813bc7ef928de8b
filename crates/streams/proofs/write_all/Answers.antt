-- What a write takes comes behind the bytes that are written.
use Rattle.std.proofs.Common.{◌≡◌, ◌≤◌, ◌+◌, ◌-◌, ◌++◌, length, take, drop, sym, ap, ◌∙◌, subst, arith}
use Rattle.std.proofs.lemmas.List.{take_rest}
use Rattle.std.specs.Io.KnownBytes.{Appends}
use Rattle.std.proofs.KnownBytes.{Appends-trans}
use lib.ListN.{length-drop}
use lib.Seq.{take-add, drop-drop}
use Rattle.streams.proofs.write_all.Goals as goal

pub loop-rest-preserved : goal.loop-rest-preserved
loop-rest-preserved g c =
    let i = c.loop-rest.invariant in
    let n = c.in_ok-n.n in
    let rest = c.loop-rest.rest.now in
    let bytes = c.args.bytes.now in
    let took : n ≤ length rest = c.in_ok-n.ensures.bytes.0 in
    let left : length rest ≡ length bytes - i.0 = ap length i.2 ∙ length-drop i.0 bytes in (
      i.0 + n,
      omega (arith, i.1, took, left),
      take_rest rest n ∙ ap (drop n) i.2 ∙ drop-drop n i.0 bytes ∙ ap (λ k. drop k bytes) (omega arith),
      subst (Appends _ _) (ap (λ r. take i.0 bytes ++ take n r) i.2 ∙ sym (take-add i.0 n bytes)) (Appends-trans _ _ _ _ _ i.3 c.in_ok-n.ensures.bytes.1),
    )

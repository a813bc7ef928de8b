use Rattle.std.proofs.Common.{rules}
use Rattle.std.proofs.lemmas.Iterator.{YieldsList-from_slice, YieldsList-from_zip}
use Rattle.std.proofs.lemmas.Iterator.Search.{all_from_yields_List}
use Rattle.comparison.specs.Same.{observation}
use Rattle.comparison.proofs.Zipped.{pairs}
use Rattle.comparison.proofs.same_window.Goals as goal

pub returns : goal.returns
returns c =
    let paired = YieldsList-from_zip {s = c.zip.result} (YieldsList-from_slice c.args.a (cc)) (YieldsList-from_slice c.args.b (cc)) in
    let every = all_from_yields_List (λ p. observation p.0 p.1) c.all.new.self _ _ c.all.ensures.ran paired (λ x r q k. search rules) in
    let same = pairs observation c.args.a c.args.b (search rules) in
    search rules

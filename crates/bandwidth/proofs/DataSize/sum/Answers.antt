-- The fold of std is that of `specs/`.
use Rattle.std.proofs.Common.{pos, rules}
use Rattle.std.proofs.lemmas.Iterator.{YieldsList-from_slice}
use Rattle.refusal.proofs.TryFold.{try_folds}
use Rattle.bandwidth.specs.Size.{size, plus, total}
use Rattle.bandwidth.proofs.DataSize.sum.Goals as goal

pub returns : goal.returns
unfolding total
returns c =
    let sizes = c.args.sizes.now in
    try_folds _ (λ y. y.now) _ (λ sum z. plus sum (size z)) (λ f b x r h k. search rules) (size (pos 0)) sizes _ c.try_fold.ensures.ran
    (YieldsList-from_slice sizes c.iter.ensures.rest)

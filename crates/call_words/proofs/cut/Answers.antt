-- `cut` meets its contract: it cuts before the first byte that is so. Assumes nothing.
use Rattle.std.proofs.Common.{◌≡◌, ℕ, true, false, sym, ◌∙◌, rules}
use Rattle.std.proofs.lemmas.Iterator.{IsFirst-from_position, YieldsList-from_slice}
use Rattle.call_words.proofs.Scanning.{count_before, cut_at}
use Rattle.call_words.proofs.cut.Goals as goal

pub returns : goal.returns
returns g c p h =
    cut_at p c.args.bytes.now _ _ _
    (count_before p _ _
    (IsFirst-from_position _ _ _ (λ (b : ℕ). p b ≡ true) (λ (b : ℕ). p b ≡ false) c.position.ensures.ran (YieldsList-from_slice _ cc)
    (λ x q k. search (rules, h)) (λ x q k. search (rules, h)))
    ∙ sym c.unwrap_or-place.ensures)
    c.split_at.ensures.front c.split_at.ensures.back

-- `get_candidates` meets its contract. The loop's invariant: the candidates of the factors so far stand. Assumes nothing.
use Rattle.std.proofs.Common.{◌≡◌, map, take}
use Rattle.candidates.specs.Candidate as Candidate
use Rattle.candidates.proofs.get_candidates.Given as goal

abbrev pub invariant-loop-factor : goal.invariant-loop-factor
invariant-loop-factor l =
    l.candidates.items ≡ map (λ factor. Candidate.candidate l.current l.bound (Candidate.scaled factor l.rate)) (take l.factor-index l.factor-items)

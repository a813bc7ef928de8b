-- A try that fails reads nothing.
use Rattle.std.proofs.Common.{rules, ◌≡◌, refl}
use Rattle.std.specs.Io.KnownBytes.{Keeps}
use Rattle.std.proofs.KnownBytes.{Keeps-refl}
use Rattle.streams.specs.Streams.{Reads}
use Rattle.streams.proofs.Tries.{tries_end, after_read}
use Rattle.streams.proofs.read_chunk.Goals as goal

pub returns-clause-bytes : goal.returns-clause-bytes
returns-clause-bytes g c =
    let left = g.R.Read.remaining c.args.input.now in
    let all =
    tries_end _ (λ f₀ f. Keeps left (g.R.Read.remaining f.0.now) × (f.0.ghost_name ≡ f₀.0.ghost_name) × (f.1.ghost_name ≡ f₀.1.ghost_name))
    (λ f₀ r f. Reads r left (g.R.Read.remaining f.0.now) f.1.now × (f.0.ghost_name ≡ f₀.0.ghost_name) × (f.1.ghost_name ≡ f₀.1.ghost_name)) _ _ _ c.retried.ensures.tries
    (Keeps-refl left, refl, refl)
    (λ f f' r k s. (after_read left _ _ r _ k.0 (search (rules, s)) (search (rules, s)), search (rules, s, k.1), search (rules, s, k.2)))
    (λ f e k. k) (λ f e k. k) in
    let p : c.retried.new.attempt.0.ghost_name ≡ _ = all.1 in
    let q : c.retried.new.attempt.1.ghost_name ≡ _ = all.2 in
    let x : Reads c.retried.result left (g.R.Read.remaining c.retried.new.attempt.0.now) c.retried.new.attempt.1.now = all.0 in
    search (rules, p, q, x)

-- A try that fails writes nothing.
use Rattle.std.proofs.Common.{rules, ◌≡◌, refl}
use Rattle.std.specs.Io.KnownBytes.{Keeps}
use Rattle.std.proofs.KnownBytes.{Keeps-refl}
use Rattle.streams.specs.Streams.{Writes}
use Rattle.streams.proofs.Tries.{tries_end, after_write}
use Rattle.streams.proofs.write_chunk.Goals as goal

pub returns-clause-bytes : goal.returns-clause-bytes
returns-clause-bytes g c =
    let held = g.W.Write.contents c.args.out.now in
    let bytes = c.args.bytes.now in
    let all =
    tries_end _ (λ f₀ f. Keeps held (g.W.Write.contents f.0.now) × (f.0.ghost_name ≡ f₀.0.ghost_name) × (f.1.now ≡ bytes))
    (λ f₀ r f. Writes r held (g.W.Write.contents f.0.now) bytes × (f.0.ghost_name ≡ f₀.0.ghost_name) × (f.1.now ≡ bytes)) _ _ _ c.retried.ensures.tries
    (Keeps-refl held, refl, refl)
    (λ f f' r k s. (after_write held _ _ r _ k.0 (search (rules, s, k.2)) (search (rules, s, k.2)), search (rules, s, k.1), search (rules, s, k.2)))
    (λ f e k. k) (λ f e k. k) in
    let p : c.retried.new.attempt.0.ghost_name ≡ _ = all.1 in
    let x : Writes c.retried.result held (g.W.Write.contents c.retried.new.attempt.0.now) bytes = all.0 in
    search (rules, p, x)

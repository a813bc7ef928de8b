-- `read_fraction` meets its contract. Assumes nothing.
use Rattle.std.proofs.Common.{ℕ, ◌*◌, sym, ap, arith}
use Rattle.call_words.proofs.Numbers.{places_fit}
use Rattle.call_words.proofs.read_fraction.Goals as goal

pub overflow_mul-result : goal.overflow_mul-result
overflow_mul-result c =
    omega (
      arith,
      ap (λ (u : ℕ). c.in_ok-value.value * u) c.unit.ensures,
      places_fit c.in-Some.digits.now (omega arith) _ (sym c.in_ok-value.ensures),
    )

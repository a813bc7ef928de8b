-- A number's digits, for the private function of the column writer that works them out. Definitions only; no statement of document 01 has them.
use Rattle.std.specs.Prelude.{ℕ, zero, suc, ◌+◌, ◌/◌, ◌%◌, List, [], ◌∷◌, ◌++◌}
use Rattle.call_line.specs.Column.{ascii_zero}

-- the last w digits of n, with zeros before them where it has fewer
unfoldable pub last_digits : ℕ → ℕ → List ℕ
last_digits zero n = []
last_digits (suc w) n = last_digits w (n / 10) ++ ((ascii_zero + n % 10) ∷ [])

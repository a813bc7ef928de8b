-- For the private function that reads seconds: its numbers have to fit in a u64. Definitions only; no statement of the request has them.
use Rattle.std.specs.Prelude.{ℕ, ◌^◌, Option, List}
use Rattle.call_line.specs.Column.{digits_of}
use Rattle.call_words.specs.Words.{up_to, on_from, at_most, is_point, times, fraction_of, plus}

-- the ns of seconds, the whole ones at most 4,000,000,000
unfoldable pub bounded_nanos : List ℕ → Option ℕ
bounded_nanos word =
    plus (times (10 ^ 9) (at_most 4000000000 (digits_of (up_to is_point word)))) (fraction_of (on_from is_point word))

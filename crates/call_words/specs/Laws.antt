-- What follows from the definitions, and is proved.
use Rattle.std.specs.Prelude.{◌≡◌, ℕ, false, Some, Ok, List, from_bits}
use Rattle.std.specs.Float.{binary64}
use Rattle.std.specs.Float.Ieee.Exact.{HasValue}
use Rattle.call_line.specs.Column.{digits_of, row}
use Rattle.call_line.specs.Line.{wide, values_of, line_of}
use Rattle.call_line.specs.Write.{check, OfType}
use Rattle.call_line.specs.declared.Call.{Call}
use Rattle.call_words.specs.Words.{rate_of, words_of}

-- a whole rate that is taken is exact: the float of its 64 bits is the number n / 1 that the digits say
abbrev pub RateExact : Type 0
RateExact =
    (word : List ℕ) (n bits : ℕ) → digits_of word ≡ Some n → rate_of word ≡ Some bits → HasValue (from_bits binary64 bits) false n 1

-- what words say, the reader of call lists does not turn down, and its numbers are of 64 bits
abbrev pub WordsTaken : Type 0
WordsTaken = (line : List ℕ) (call : Call) → words_of line ≡ Ok (Some call) → (check call ≡ Ok tt) × OfType call

-- so the line that is written for words is read as the call that they say
abbrev pub WordsRead : Type 0
WordsRead = (line : List ℕ) (call : Call) → words_of line ≡ Ok (Some call) → line_of (row wide (values_of call)) ≡ Ok call

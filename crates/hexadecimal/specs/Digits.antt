-- Hexadecimal digits, in lower case, as numbers. Definitions only.
use Rattle.std.specs.Prelude.{ℕ, ◌+◌, ◌-◌, ◌*◌, ◌%◌, ◌^◌, ◌&&◌, if◌then◌else◌, nat_le, false, List, [], ◌∷◌, ◌++◌}
use Rattle.std.specs.Fmt.{digits, padded_integral, format_spec}
use Rattle.std.specs.List.{fold}
use Rattle.hexadecimal.specs.declared.Answer.{Answer}

-- '0' to '9' are bytes 48 to 57, 'a' to 'f' 97 to 102; any other byte counts as 0
abbrev pub digit_of : ℕ → ℕ
digit_of b = if nat_le 48 b && nat_le b 57 then b - 48 else (if nat_le 97 b && nat_le b 102 then b - 97 + 10 else 0)

-- one digit more, of which sixteen are kept
abbrev pub with_digit : ℕ → ℕ → ℕ
with_digit n b = n % 2 ^ 60 * 16 + digit_of b

abbrev pub value : List ℕ → ℕ
value text = fold with_digit 0 text

-- what `{:016x}` writes: zeros (4) before the number, in 16 places
abbrev pub sixteen_digits : ℕ → List ℕ
sixteen_digits n = padded_integral (format_spec 32 0 4 16 (2 ^ 64 - 1)) false [] (digits 16 false n)

-- the number of a refusal, a space (32), and the result
abbrev pub line_of : Answer → List ℕ
line_of a = digits 16 false a.refusal ++ (32 ∷ sixteen_digits a.result)

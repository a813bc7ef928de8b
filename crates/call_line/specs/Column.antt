-- Columns: numbers "decimal, right-justified with spaces, no leading zeros", read and written. Definitions only.
use Rattle.std.specs.Prelude.{ℕ, zero, suc, ◌+◌, ◌-◌, ◌*◌, ◌/◌, ◌%◌, ◌^◌, Bool, ◌&&◌, if◌then◌else◌, Option, Some, None, List, [], ◌∷◌, ◌++◌, eqb, leb, ltb, length, get_or, take, drop, replicate}

-- ---- bytes

abbrev pub ascii_space : ℕ
ascii_space = 32

abbrev pub ascii_zero : ℕ
ascii_zero = 48

abbrev pub ascii_nine : ℕ
ascii_nine = 57

-- ---- reading

-- "0" to "9"
unfoldable pub is_digit : ℕ → Bool
is_digit b = leb ascii_zero b && leb b ascii_nine

-- v, and the digits s after it; "a number above 2^64 - 1" is none
unfoldable pub more : ℕ → List ℕ → Option ℕ
more v [] = Some v
more v (b ∷ s) =
    if is_digit b && ltb (v * 10 + (b - ascii_zero)) (2 ^ 64) then more (v * 10 + (b - ascii_zero)) s else None

-- what follows a leading zero: nothing
unfoldable pub after_zero : List ℕ → Option ℕ
after_zero [] = Some 0
after_zero (b ∷ s) = None

-- a number's digits: a zero alone, or digits that begin with no zero
unfoldable pub digits_of : List ℕ → Option ℕ
digits_of [] = None
digits_of (b ∷ s) = if eqb b ascii_zero then after_zero s else more 0 (b ∷ s)

unfoldable pub leading_spaces : List ℕ → ℕ
leading_spaces [] = 0
leading_spaces (b ∷ s) = if eqb b ascii_space then suc (leading_spaces s) else 0

-- what a column says: spaces, and then digits to its end
unfoldable pub column_of : List ℕ → Option ℕ
column_of s = digits_of (drop (leading_spaces s) s)

-- ---- writing

-- n in w places: its last digit after the others, or after spaces
unfoldable pub column : ℕ → ℕ → List ℕ
column zero n = []
column (suc w) n = (if ltb n 10 then replicate w ascii_space else column w (n / 10)) ++ ((ascii_zero + n % 10) ∷ [])

-- ---- columns beside each other

-- where the column j starts, if the columns are this wide: at the end of all columns before it
abbrev pub start : List ℕ → ℕ → ℕ
start ws zero = 0
start [] (suc j) = 0
start (w ∷ ws) (suc j) = w + start ws j

-- the width of all columns
abbrev pub total : List ℕ → ℕ
total ws = start ws (length ws)

-- the bytes of the column j
abbrev pub cut : List ℕ → ℕ → List ℕ → List ℕ
cut ws j s = take (get_or ws j 0) (drop (start ws j) s)

-- numbers in columns of these widths
unfoldable pub row : List ℕ → List ℕ → List ℕ
row [] ns = []
row (w ∷ ws) [] = []
row (w ∷ ws) (n ∷ ns) = column w n ++ row ws ns

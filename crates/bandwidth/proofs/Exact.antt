-- Where a size goes to a float: the test that the code makes is the library's `in_float`; and the ends of an i64 as floats. Assumes nothing.
use Rattle.std.proofs.Common.{◌≡◌, ℕ, ◌^◌, ◌<◌, ◌≤◌, true, false, ℤ, pos, negsuc, unsigned_abs, arith, le-leb, lt-ltb, le-ltb}
use Rattle.std.proofs.lemmas.Bool.{lt-leb}
use Rattle.std.specs.Float.{two_to, minus_two_to}
use lib.Ieee.{binary64, in_float, of_bits, neg}

pub exact : (z : ℤ) → unsigned_abs z ≤ 2 ^ 53 → in_float binary64 z ≡ true
unfolding in_float
exact (pos n) h = le-leb n (2 ^ 53) h
exact (negsuc n) h = lt-ltb n (2 ^ 53) (omega arith)

pub inexact : (z : ℤ) → 2 ^ 53 < unsigned_abs z → in_float binary64 z ≡ false
unfolding in_float
inexact (pos n) h = lt-leb n (2 ^ 53) h
inexact (negsuc n) h = le-ltb n (2 ^ 53) (omega arith)

-- 2^63 and -2^63, the ends of an i64, which the code would have by their bits: must-fail/i64-limit, whose cast asks for them, cites both
pub top_is : (b : ℕ) → b ≡ 0x43E0000000000000 → of_bits binary64 b ≡ two_to 63
unfolding of_bits
top_is b h = rw h

pub bottom_is : (b : ℕ) → b ≡ 0x43E0000000000000 → neg (of_bits binary64 b) ≡ minus_two_to 63
unfolding of_bits neg
bottom_is b h = rw h

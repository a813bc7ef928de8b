-- A whole rate that is taken is exact. Assumes nothing.
use Rattle.std.proofs.Common.{◌≡◌, ℕ, ◌^◌, ◌≤◌, Bool, true, false, cond, leb, pos, refl, sym, arith, leb-true}
use lib.Ieee.{binary64, inf, of_bits, to_bits, of_int}
use lib.Ieee.Back.{round_whole}
use lib.Ieee.Bits.{of_bits-to_bits}
use lib.Ieee.Exact.{HasValue}
use lib.Ieee.Fits.{of_int-fits}
use Rattle.call_line.specs.Column.{is_digit, more, digits_of}
use Rattle.std.proofs.Common.{Some, None}
use Rattle.call_words.specs.Words.{ascii, same, at_most, bits_of, rate_of}
use Rattle.std.specs.Cmp.Lexicographic.{same_text}
use Rattle.call_words.specs.Laws.{RateExact}

inf_no_number : digits_of (ascii "inf") ≡ None
unfolding digits_of is_digit more
inf_no_number = refl

pub small_exact : (n : ℕ) → n ≤ 10 ^ 15 → HasValue (of_bits binary64 (to_bits binary64 (of_int binary64 (pos n)))) false n 1
unfolding of_int
small_exact n h = rw (of_bits-to_bits binary64 (of_int binary64 (pos n)) (of_int-fits binary64 (pos n))) (round_whole binary64 false n (omega arith))

pub rate_exact : RateExact
unfolding rate_of at_most bits_of
rate_exact word n bits d e = pick (same word (ascii "inf")) refl (rw d at e)
  where
    pick :
        (t : Bool) → same word (ascii "inf") ≡ t
        → cond t (Some (to_bits binary64 (inf false))) (bits_of (cond (leb n (10 ^ 15)) (Some n) None)) ≡ Some bits
        → HasValue (of_bits binary64 bits) false n 1
    pick true q f = cc (same_text word (ascii "inf") (sym q), inf_no_number)
    pick false q f = taken (leb n (10 ^ 15)) refl f
      where
        taken :
            (t : Bool) → leb n (10 ^ 15) ≡ t → bits_of (cond t (Some n) None) ≡ Some bits → HasValue (of_bits binary64 bits) false n 1
        taken true l g =
            let b : bits ≡ to_bits binary64 (of_int binary64 (pos n)) = cc in
            rw b (small_exact n (leb-true _ _ l))
        taken false l g = cc

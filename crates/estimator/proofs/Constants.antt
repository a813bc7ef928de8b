-- Bitrate::MAX, which the code has by its bits. Assumes nothing.
use Rattle.std.proofs.Common.{◌≡◌, pos, refl}
use lib.Ieee.{binary64, of_bits, of_int}

pub largest : of_bits binary64 0x43F0000000000000 ≡ of_int binary64 (pos 18446744073709551615)
unfolding of_bits of_int
largest = refl

-- What `fits` says of a finite float. Assumes nothing.
use Rattle.std.proofs.Common.{zero, suc, ◌*◌, ◌%◌, ◌^◌, ◌<◌, ◌≤◌, ◌&&◌, ℕ, Bool, T, eqb, ltb, leb, ℤ, le_trans, mul-le-mul_right, mul-pos, zero-mul, arith, eqb→eq, ltb→lt, leb→le, pow_pos}
use lib.Ieee.{fin, Format, prec, emax, low, up, down, fits}
use lib.Ieee.Fits.{up_pos, down_pos, and_l, and_r}

module _ (f : Format) where
  pub fits_says : (s : Bool) (m : ℕ) (e : ℤ) → T (fits f (fin s m e)) → (m < 2 ^ prec f) × (down e ≤ 2 ^ low f) × (m * up e < 2 ^ suc (emax f) * down e)
  unfolding fits
  fits_says s zero e t =
      let h : 1 * down e ≤ up e * down e = mul-le-mul_right (down e) (up_pos e) in
      let one : down e ≤ 1 = omega (arith, eqb→eq (up e * down e) 1 t) in
      (pow_pos (prec f), le_trans one (pow_pos (low f)), rw (zero-mul (up e)) (mul-pos (pow_pos (suc (emax f))) (down_pos e)))
  fits_says s (suc m) e t =
      let a = eqb (suc m % 2) 1 in
      let b = ltb (suc m) (2 ^ prec f) in
      let c = leb (down e) (2 ^ low f) in
      let d = ltb (suc m * up e) (2 ^ suc (emax f) * down e) in
      let abc : T (a && b && c) = and_l (a && b && c) d t in (
        ltb→lt (suc m) (2 ^ prec f) (and_r a b (and_l (a && b) c abc)),
        leb→le (down e) (2 ^ low f) (and_r (a && b) c abc),
        ltb→lt (suc m * up e) (2 ^ suc (emax f) * down e) (and_r (a && b && c) d t),
      )

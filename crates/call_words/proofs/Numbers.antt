-- The numbers that values are. Assumes nothing.
use Rattle.std.proofs.Common.{◌≡◌, ℕ, suc, ◌+◌, ◌-◌, ◌*◌, ◌^◌, ◌<◌, ◌≤◌, Bool, true, false, cond, ◌&&◌, ltb, leb, List, [], ◌∷◌, length, refl, add-zero, mul-le-mul, pow-suc, arith, lit<, leb-false, leb-true}
use native.Mathlib.Nat.{pow-le-pow_right}
use borrow.Author.Tests.{lt-leb}
use Rattle.std.proofs.lemmas.Bool.{and_parts}
use Rattle.packets.specs.Summary.{largest_packet, latest_time}
use Rattle.std.proofs.Common.{Option, Some, None}
use Rattle.call_line.specs.Column.{ascii_zero, is_digit, more, digits_of}
use Rattle.call_line.proofs.Reading.{digit_bounds}
use Rattle.std.specs.Float.{binary64, inf}
use Rattle.std.specs.Prelude.{to_bits}
use Rattle.call_words.specs.Words.{ascii, same, rate_of, up_to, on_from, is_point, at_most, size_of, times, unit_of, places_of, fraction_of, plus, nanos_of, time_of}
use Rattle.call_words.specs.Steps.{bounded_nanos}

-- ---- digits

-- a number of k digits, and the digits after it
more_below : (s : List ℕ) (k v n : ℕ) → v < 10 ^ k → more v s ≡ Some n → n < 10 ^ (k + length s)
unfolding more
more_below [] k v n h e = let q : v ≡ n = cc in rw add-zero (omega arith)
more_below (b ∷ s) k v n h e =
    pick (is_digit b && ltb (v * 10 + (b - ascii_zero)) (2 ^ 64)) refl
    (λ d. more_below s (suc k) (v * 10 + (b - ascii_zero)) n (omega (arith, digit_bounds b d, pow-suc 10 k))) e
  where
    pick :
        (t : Bool) → (is_digit b && ltb (v * 10 + (b - ascii_zero)) (2 ^ 64)) ≡ t
        → (is_digit b ≡ true → more (v * 10 + (b - ascii_zero)) s ≡ Some n → n < 10 ^ (suc k + length s))
        → cond t (more (v * 10 + (b - ascii_zero)) s) None ≡ Some n → n < 10 ^ (k + suc (length s))
    pick true q r f =
        let w : k + suc (length s) ≡ suc k + length s = omega arith in
        rw w (r (and_parts _ _ q).0 f)
    pick false q r f = cc

-- ---- rates

pub rate_inf : (s : List ℕ) → same s (ascii "inf") ≡ true → rate_of s ≡ Some (to_bits binary64 (inf false))
unfolding rate_of
rate_inf s e = simp e

-- ---- sizes

pub at_most_lem : (most n : ℕ) (a : Option ℕ) → at_most most a ≡ Some n → n ≤ most
unfolding at_most
at_most_lem most n (Some m) e = pick (leb m most) refl e
  where
    pick : (t : Bool) → leb m most ≡ t → cond t (Some m) None ≡ Some n → n ≤ most
    pick true q f = let w : m ≡ n = cc in omega (arith, leb-true m most q)
    pick false q f = cc
at_most_lem most n None e = cc

pub size_fits : (s : List ℕ) (n : ℕ) → size_of s ≡ Some n → n ≤ largest_packet
unfolding size_of
size_fits s n e = at_most_lem largest_packet n (digits_of s) e

-- ---- powers of ten

pub power_fits : (j : ℕ) → j ≤ 9 → 10 ^ j ≤ 10 ^ 9
power_fits j h = pow-le-pow_right (lit< tt) h

-- ---- the digits after a point

-- each is below 10^9
pub places_fit : (s : List ℕ) → length s ≤ 9 → (v : ℕ) → more 0 s ≡ Some v → v * unit_of (length s) ≤ 10 ^ 18
places_fit s l v e =
    let a : v < 10 ^ (0 + length s) = more_below s 0 0 v (lit< tt) e in
    let b : 10 ^ (0 + length s) ≤ 10 ^ 9 = power_fits (0 + length s) (omega arith) in
    let c : unit_of (length s) ≤ 10 ^ 9 = power_fits (9 - length s) (omega arith) in
    let d : v ≤ 10 ^ 9 = omega arith in
    mul-le-mul d c

timed : (u n : ℕ) (a : Option ℕ) → times u a ≡ Some n → ((v : ℕ) → a ≡ Some v → v * u ≤ 10 ^ 18) → n ≤ 10 ^ 18
unfolding times
timed u n (Some v) e h = let q : v * u ≡ n = cc in omega (arith, h v refl)
timed u n None e h = cc

places_within : (s : List ℕ) (n : ℕ) → places_of s ≡ Some n → n ≤ 10 ^ 18
unfolding places_of
places_within s n e = pick (leb 1 (length s) && leb (length s) 9) refl e
  where
    pick :
        (t : Bool) → (leb 1 (length s) && leb (length s) 9) ≡ t → cond t (times (unit_of (length s)) (more 0 s)) None ≡ Some n
        → n ≤ 10 ^ 18
    pick true q f =
        let b = and_parts (leb 1 (length s)) (leb (length s) 9) q in
        timed (unit_of (length s)) n (more 0 s) f (places_fit s (leb-true _ _ b.1))
    pick false q f = cc

pub fraction_fits : (s : List ℕ) (n : ℕ) → fraction_of s ≡ Some n → n ≤ 10 ^ 18
unfolding fraction_of
fraction_fits [] n e = let q : 0 ≡ n = cc in omega arith
fraction_fits (point ∷ digits) n e = places_within digits n e

-- ---- the parts of a time

pub seconds_parts :
    (s front back : List ℕ) → front ≡ up_to is_point s → back ≡ on_from is_point s
    → bounded_nanos s ≡ plus (times (10 ^ 9) (at_most 4000000000 (digits_of front))) (fraction_of back)
unfolding bounded_nanos
seconds_parts s front back f b = rw (f, b)

-- the bound on the seconds is within that on the time
pub bounded : (word : List ℕ) → at_most latest_time (bounded_nanos word) ≡ time_of word
unfolding bounded_nanos time_of nanos_of plus times at_most
bounded word = pick (digits_of (up_to is_point word)) (fraction_of (on_from is_point word))
  where
    pick : (a b : Option ℕ) → at_most latest_time (plus (times (10 ^ 9) (at_most 4000000000 a)) b) ≡ at_most latest_time (plus (times (10 ^ 9) a) b)
    pick None b = refl
    pick (Some n) None = choose (leb n 4000000000)
      where
        choose : (t : Bool) → at_most latest_time (plus (times (10 ^ 9) (cond t (Some n) None)) None) ≡ None
        choose true = refl
        choose false = refl
    pick (Some n) (Some f) = choose (leb n 4000000000) refl
      where
        choose :
            (t : Bool) → leb n 4000000000 ≡ t
            → at_most latest_time (plus (times (10 ^ 9) (cond t (Some n) None)) (Some f)) ≡ at_most latest_time (Some (n * 10 ^ 9 + f))
        choose true q = refl
        choose false q = let l : 4000000000 < n = leb-false _ _ q in rw (lt-leb (n * 10 ^ 9 + f) latest_time (omega arith))

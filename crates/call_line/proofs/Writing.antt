-- Writing a column: the laws that `digits`, `write_digit` and `write_number` cite. Assumes nothing.
use Prim.Native.Nat.{ℕ, zero, suc, ◌+◌, ◌-◌, ◌*◌, ◌/◌, ◌%◌, ◌^◌, ◌≤◌, ◌<◌}
use mathlib.Core.Path.{◌≡◌, refl, sym, ap, ◌∙◌}
use mathlib.Core.Bool.{Bool, true, false, cond}
use mathlib.Core.List.{List, [], ◌∷◌, ◌++◌}
use native.Mathlib.Nat.{div-one, div-eq_of_lt, div-div-eq-div-mul, div-add-mod, mod-lt, mod-eq_of_lt, pow-succ', one-le-pow, pow-le-pow_right}
use native.Mathlib.Nat.{le_trans, lt_of_lt_of_le, zero-add, suc-add}
use native.Mathlib.Decide.{dec_lt}
use native.Mathlib.Numerals.{add-one}
use native.Mathlib.Omega.{arith}
use borrow.Author.Tests.{lt-ltb, le-ltb}
use lib.Arith.{mod-mul, digits_div, digits_mod}
use lib.Dec.{ltb, lit<}
use lib.ListN.{length, get_or, take, drop, set, replicate, length-append, get_or-append, drop_of_length-le}
use lib.Seq.{take-suc, take-suc-set, take_all, get_or-append_seam, drop-append-le}
use Rattle.std.specs.List.{range_with_len}
use Rattle.std.proofs.Common.{map}
use Rattle.std.proofs.lemmas.List.FromFn.{get_or-map-range_with_len}
use Rattle.call_line.specs.Column.{ascii_space, ascii_zero, column}
use Rattle.call_line.specs.Digits.{last_digits}

-- ---- powers of ten

-- those of twenty places, the largest first
abbrev pub powers : List ℕ
powers = map (λ k. 10 ^ (20 - suc k)) (range_with_len 0 20)

-- each entry of a table that antt computes to be the powers
pub power_at : {table : List ℕ} → table ≡ powers → (k : ℕ) → k < 20 → get_or table k 0 ≡ 10 ^ (20 - suc k)
power_at e k h = rw e (get_or-map-range_with_len (λ k. 10 ^ (20 - suc k)) 0 20 k k 0 h (zero-add k))

pub power_pos : (k : ℕ) → 0 < 10 ^ k
power_pos k = one-le-pow k 10 (lit< tt)

-- the powers rise
below_power : {n k l : ℕ} → n < 10 ^ k → k ≤ l → n < 10 ^ l
below_power h m = lt_of_lt_of_le h (pow-le-pow_right (lit< tt) m)

power_within : {n k l : ℕ} → 10 ^ l ≤ n → k ≤ l → 10 ^ k ≤ n
power_within h m = le_trans (pow-le-pow_right (lit< tt) m) h

-- ---- the digits of a number

-- what is left of n below 10 ^ suc k: less than ten times the power before, whose digit and rest are n's
parted : (n k : ℕ) → (n % 10 ^ suc k < 10 * 10 ^ k) × (n % 10 ^ suc k / 10 ^ k ≡ n / 10 ^ k % 10) × (n % 10 ^ suc k % 10 ^ k ≡ n % 10 ^ k)
parted n k =
    let q = n / 10 ^ k % 10 in
    let l = mod-lt n (power_pos k) in
    let e = mod-mul n {m = 10} (lit< tt) (power_pos k) in
    rw pow-succ' (mod-lt n (omega (arith, power_pos k)), rw e (digits_div q l), rw e (digits_mod q l))

-- at the place k of twenty
pub parted_at :
    (n k rest : ℕ) → k < 20 → rest ≡ n % 10 ^ (20 - k)
    → (rest < 10 * 10 ^ (20 - suc k)) × (rest / 10 ^ (20 - suc k) ≡ n / 10 ^ (20 - suc k) % 10) × (rest % 10 ^ (20 - suc k) ≡ n % 10 ^ (20 - suc k))
parted_at n k rest h e = let w : 20 - k ≡ suc (20 - suc k) = omega arith in rw (e, w) (parted n (20 - suc k))

next_power : (n k : ℕ) → n / 10 ^ suc k ≡ n / 10 / 10 ^ k
next_power n k = rw (pow-succ', div-div-eq-div-mul)

pub length_digits : (w n : ℕ) → length (last_digits w n) ≡ w
unfolding last_digits
length_digits zero n = refl
length_digits (suc w) n = length-append (last_digits w (n / 10)) ((ascii_zero + n % 10) ∷ []) ∙ rw (length_digits w (n / 10)) (omega arith)

digit_of : (w n k : ℕ) → k < w → get_or (last_digits w n) k 0 ≡ ascii_zero + n / 10 ^ (w - suc k) % 10
unfolding last_digits
digit_of zero n k h = absurd (omega arith)
digit_of (suc w) n k h = pick (digit_of w (n / 10) k) (dec_lt k w)
  where
    ds : List ℕ
    ds = last_digits w (n / 10)

    pick :
        (k < w → get_or ds k 0 ≡ ascii_zero + n / 10 / 10 ^ (w - suc k) % 10) → Dec (k < w)
        → get_or (ds ++ ((ascii_zero + n % 10) ∷ [])) k 0 ≡ ascii_zero + n / 10 ^ (suc w - suc k) % 10
    pick ih (yes l) =
        let e : suc w - suc k ≡ suc (w - suc k) = omega arith in
        let m : k < length ds = rw (length_digits w (n / 10)) l in
        get_or-append ds ((ascii_zero + n % 10) ∷ []) 0 k m ∙ rw (e, next_power) (ih l)
    pick ih (no m) =
        let e : suc w - suc k ≡ 0 = omega arith in
        let q : k ≡ length ds = rw (length_digits w (n / 10)) (omega arith) in
        rw (e, q, get_or-append_seam ds (ascii_zero + n % 10) [] 0, div-one)

-- one digit more is n's
pub digit_laid :
    (n k v : ℕ) (ds : List ℕ) → k < 20 → length ds ≡ 20 → v ≡ n / 10 ^ (20 - suc k) % 10 → take k ds ≡ take k (last_digits 20 n)
    → take (k + 1) (set ds k (ascii_zero + v)) ≡ take (k + 1) (last_digits 20 n)
digit_laid n k v ds h l e t =
    let m : k < length ds = omega arith in
    let u : k < length (last_digits 20 n) = rw (length_digits 20 n) h in
    rw (add-one, take-suc-set ds k (ascii_zero + v) m, take-suc (last_digits 20 n) k 0 u, t, digit_of 20 n k h, e)

pub all_digits : (n k : ℕ) (ds : List ℕ) → k ≡ 20 → length ds ≡ 20 → take k ds ≡ take k (last_digits 20 n) → ds ≡ last_digits 20 n
all_digits n k ds e l t =
    let u : length (last_digits 20 n) ≤ k = rw (length_digits 20 n) (omega arith) in
    sym (take_all k ds (omega arith)) ∙ t ∙ take_all k (last_digits 20 n) u

-- a digit that is not 0, and digits that are
digit_reaches : (n k : ℕ) → (n / 10 ^ k % 10 ≡ 0 → ⊥) → 10 ^ k ≤ n
digit_reaches n k h = pick (dec_lt n (10 ^ k))
  where
    pick : Dec (n < 10 ^ k) → 10 ^ k ≤ n
    pick (yes l) = absurd (h (rw (div-eq_of_lt l)))
    pick (no m) = omega (arith, m)

zero_below : (n k : ℕ) → n < 10 ^ suc k → n / 10 ^ k % 10 ≡ 0 → n < 10 ^ k
zero_below n k h e =
    let q : n / 10 ^ k ≡ 0 = (rw (mod-eq_of_lt h) at (parted n k).1) ∙ e in
    omega (arith, mod-lt n (power_pos k), rw q at (div-add-mod n (10 ^ k)))

-- how many digits n has, told by the zeros z that begin twenty
module _ (n z : ℕ) (u : n < 10 ^ 20) (f : (k : ℕ) → k < z → get_or (last_digits 20 n) k 0 ≡ ascii_zero) where
  zeros_below : (j : ℕ) → j ≤ z → j ≤ 20 → n < 10 ^ (20 - j)
  zeros_below zero h l = omega arith
  zeros_below (suc j) h l =
      let w : 20 - j ≡ suc (20 - suc j) = omega arith in
      zero_below n (20 - suc j) (rw w at (zeros_below j (omega arith) (omega arith)))
      (omega (arith, f j (omega arith), digit_of 20 n j (omega arith)))

  digit_at : z < 20 → (get_or (last_digits 20 n) z 0 ≡ ascii_zero → ⊥) → 10 ^ (20 - suc z) ≤ n
  digit_at h m = digit_reaches n (20 - suc z) (λ e. m (digit_of 20 n z h ∙ rw e))

-- ---- the digits in a column

-- n below ten
pub digit_column : (l w n : ℕ) → w + 1 ≡ l → n < 10 → column l n ≡ replicate w ascii_space ++ ((ascii_zero + n) ∷ [])
unfolding column
digit_column zero w n e h = absurd (omega arith)
digit_column (suc l) w n e h = let q : l ≡ w = omega arith in rw (q, lt-ltb n 10 h, mod-eq_of_lt h)

pub no_column : (s : List ℕ) (n : ℕ) → length s ≡ 0 → column (length s) n ≡ s
unfolding column
no_column [] n e = refl
no_column (x ∷ s) n e = absurd (omega arith)

short : (w n : ℕ) → n < 10 → column (suc w) n ≡ replicate w ascii_space ++ ((ascii_zero + n % 10) ∷ [])
unfolding column
short w n h = rw (lt-ltb n 10 h)

long : (w n : ℕ) → 10 ≤ n → column (suc w) n ≡ column w (n / 10) ++ ((ascii_zero + n % 10) ∷ [])
unfolding column
long w n h = rw (le-ltb n 10 h)

last : (n : ℕ) → column 1 n ≡ (ascii_zero + n % 10) ∷ []
unfolding column
last n = pick (ltb n 10)
  where
    pick : (t : Bool) → cond t [] [] ++ ((ascii_zero + n % 10) ∷ []) ≡ (ascii_zero + n % 10) ∷ []
    pick true = refl
    pick false = refl

-- a number with more digits than k fills k + 1 places
full : (k n : ℕ) → 10 ^ k ≤ n → column (suc k) n ≡ last_digits (suc k) n
unfolding last_digits
full zero n h = last n
full (suc k) n h =
    let g : 10 ≤ n = omega (arith, pow-succ' 10 k, power_pos k) in
    let r : 10 ^ k ≤ n / 10 = omega (arith, pow-succ' 10 k) in
    rw (long (suc k) n g, full k (n / 10) r)

all_full : (l k n : ℕ) → l ≤ suc k → 10 ^ k ≤ n → column l n ≡ last_digits l n
unfolding last_digits column
all_full zero k n h r = refl
all_full (suc l) k n h r = full l n (power_within r (omega arith))

-- the first of k + 1 places is a space where n is below 10 ^ k
space_first : (k n : ℕ) → 0 < k → n < 10 ^ k → column (suc k) n ≡ ascii_space ∷ column k n
space_first zero n l h = absurd (omega arith)
space_first (suc k) n l h = pick (space_first k (n / 10)) (dec_lt n 10)
  where
    some_places : (k n : ℕ) → 0 < n → n < 10 ^ k → 0 < k
    some_places zero n l h = absurd (omega arith)
    some_places (suc k) n l h = omega arith

    pick :
        (0 < k → n / 10 < 10 ^ k → column (suc k) (n / 10) ≡ ascii_space ∷ column k (n / 10)) → Dec (n < 10)
        → column (suc (suc k)) n ≡ ascii_space ∷ column (suc k) n
    pick ih (yes p) = rw (short (suc k) n p, short k n p)
    pick ih (no m) =
        let g : 10 ≤ n = omega (arith, m) in
        let r : n / 10 < 10 ^ k = omega (arith, pow-succ' 10 k) in
        rw (long (suc k) n g, long k n g, ih (some_places k (n / 10) (omega arith) r) r)

padded : (s k n : ℕ) → 0 < k → n < 10 ^ k → column (s + k) n ≡ replicate s ascii_space ++ column k n
padded zero k n l h = rw zero-add
padded (suc s) k n l h =
    rw suc-add
    (space_first (s + k) n (omega arith) (below_power h (omega arith))
    ∙ ap (λ (r : List ℕ). ascii_space ∷ r) (padded s k n l h))

-- the last of n's digits are the last of more
last_of : (m w n : ℕ) → m ≤ w → drop (w - m) (last_digits w n) ≡ last_digits m n
unfolding last_digits
last_of zero w n h = drop_of_length-le (last_digits w n) {i = w - 0} (rw (length_digits w n) (omega arith))
last_of (suc m) zero n h = absurd (omega arith)
last_of (suc m) (suc w) n h =
    let e : suc w - suc m ≡ w - m = omega arith in
    let l : w - m ≤ length (last_digits w (n / 10)) = rw (length_digits w (n / 10)) (omega arith) in
    rw (e, drop-append-le (w - m) (last_digits w (n / 10)) ((ascii_zero + n % 10) ∷ []) l, last_of m w (n / 10) (omega arith))

-- spaces, and then as many of the digits as have room
pub filled :
    (n z l s : ℕ) (ds : List ℕ) → 10 ≤ n → n < 10 ^ 20 → ds ≡ last_digits 20 n → z ≤ 20 → ((k : ℕ) → k < z → get_or ds k 0 ≡ ascii_zero)
    → (z < 20 → get_or ds z 0 ≡ ascii_zero → ⊥) → s ≡ l - (20 - z)
    → column l n ≡ replicate s ascii_space ++ drop (20 - (l - s)) ds
filled n z l s ds g u d h f m e = rw d (pick (dec_lt l (20 - z)))
  where
    zeros : (k : ℕ) → k < z → get_or (last_digits 20 n) k 0 ≡ ascii_zero
    zeros = rw d at f

    below : n < 10 ^ (20 - z)
    below = zeros_below n z u zeros z (omega arith) h

    some : z < 20
    some = pick (dec_lt z 20)
      where
        pick : Dec (z < 20) → z < 20
        pick (yes l) = l
        pick (no k) = let q : 20 - z ≡ 0 = omega (arith, k) in absurd (omega (arith, rw q at below))

    reach : 10 ^ (20 - suc z) ≤ n
    reach = digit_at n z u zeros some (rw d at (m some))

    pick : Dec (l < 20 - z) → column l n ≡ replicate s ascii_space ++ drop (20 - (l - s)) (last_digits 20 n)
    pick (yes k) =
        let q : s ≡ 0 = omega arith in
        let r : 20 - (l - s) ≡ 20 - l = omega arith in
        rw (r, last_of l 20 n (omega arith), q) (all_full l (20 - suc z) n (omega arith) reach)
    pick (no k) =
        let v : z < 20 = some in
        let c : l ≡ s + suc (20 - suc z) = omega (arith, k) in
        let r : 20 - (l - s) ≡ 20 - suc (20 - suc z) = omega arith in
        let b : n < 10 ^ suc (20 - suc z) = below_power below (omega arith) in
        rw (r, last_of (suc (20 - suc z)) 20 n (omega arith), c) (padded s (suc (20 - suc z)) n (omega arith) b ∙ rw (full (20 - suc z) n reach))

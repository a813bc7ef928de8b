-- A distance between whole numbers. One part is a factor of (2 ^ 53 + 1) / 2 ^ 53, and `Within k u v` says that u and v differ by k parts at most, either way.
-- It adds up along a chain and over a product, and a sum has the larger one of its two. For a fraction a / c beside p / q it is put to use as `Within
-- k (a * q) (p * c)`. Assumes nothing.
use Rattle.std.proofs.Common.{rules}
use mathlib.Core.Path.{◌≡◌, refl, ap}
use Prim.Native.Nat.{ℕ, zero, suc, ◌+◌, ◌-◌, ◌*◌, ◌^◌, ◌≤◌, ◌<◌}
use native.Mathlib.Nat.{le_refl, mul-le-mul, mul-le-mul_left, mul-le-mul_right, le_of_mul-le-mul_right, pow-le-pow_left, one-le-pow, add-sub_of_le}
use native.Mathlib.Omega.{arith}
use lib.Dec.{lit≤, lit<}
use lib.Pow.{pow-add}

-- 2 ^ 53 and one more
abbrev D : ℕ
D = 2 ^ 53

abbrev E : ℕ
E = 2 ^ 53 + 1

-- ---- the two ends of k parts
unfoldable pub lo : ℕ → ℕ
lo k = D ^ k

unfoldable pub hi : ℕ → ℕ
hi k = E ^ k

lo_add : (j k : ℕ) → lo (j + k) ≡ lo j * lo k
unfolding lo
lo_add j k = search (rules, pow-add)

hi_add : (j k : ℕ) → hi (j + k) ≡ hi j * hi k
unfolding hi
hi_add j k = search (rules, pow-add)

lo_pos : (k : ℕ) → 0 < lo k
unfolding lo
lo_pos k = search (rules, one-le-pow, lit<)

lo_le_hi : (k : ℕ) → lo k ≤ hi k
unfolding lo hi
lo_le_hi k = search (rules, pow-le-pow_left, lit≤)

lo_suc : (k : ℕ) → lo (suc k) ≡ lo k * D
unfolding lo
lo_suc k = search rules

hi_suc : (k : ℕ) → hi (suc k) ≡ hi k * E
unfolding hi
hi_suc k = search rules

-- hi k / lo k is at least 1 + k / 2 ^ 53, and with m parts left to 2 ^ 53 + 1 at most (2 ^ 53 + 1) / m
parts_least : (k : ℕ) → lo k * (D + k) ≤ hi k * D
parts_least zero = unfold lo hi in le_refl D
parts_least (suc k) = rw (lo_suc, hi_suc) (omega (arith, mul-le-mul_right E (parts_least k)))

parts_most : (k m : ℕ) → m + k ≡ E → hi k * m ≤ lo k * E
parts_most zero m e = unfold lo hi in omega arith
parts_most (suc k) m e =
    let l : hi k * (E * m) ≤ hi k * (suc m * D) = mul-le-mul_left (hi k) (omega arith) in
    rw (lo_suc, hi_suc) (omega (arith, mul-le-mul_right D (parts_most k (suc m) (omega arith))))

-- ---- the distance
pub record Within (k u v : ℕ) : Type 0 where
  pub above : u * lo k ≤ v * hi k
  pub below : v * lo k ≤ u * hi k

pub within_one : {u v : ℕ} → (u * 2 ^ 53 ≤ v * (2 ^ 53 + 1)) × (v * 2 ^ 53 ≤ u * (2 ^ 53 + 1)) → Within 1 u v
unfolding lo hi
within_one h = search rules

pub within_same : {k u v : ℕ} → u ≡ v → Within k u v
within_same {k} {u} {v} e = rw e (omega (arith, mul-le-mul_left v (lo_le_hi k)))

pub within_sym : {k u v : ℕ} → Within k u v → Within k v u
within_sym a = search rules

pub within_as : {k u v w z : ℕ} → u ≡ w → v ≡ z → Within k u v → Within k w z
within_as e f a = search rules

both : (j k : ℕ) {u v : ℕ} → u * (lo j * lo k) ≤ v * (hi j * hi k) → v * (lo j * lo k) ≤ u * (hi j * hi k) → Within (j + k) u v
both j k h l = record { above = rw (lo_add, hi_add) h; below = rw (lo_add, hi_add) l }

pub within_through : {j k u v w : ℕ} → Within j u v → Within k v w → Within (j + k) u w
within_through {j} {k} a b =
    both j k (omega (arith, mul-le-mul_right (lo k) a.above, mul-le-mul_right (hi j) b.above))
    (omega (arith, mul-le-mul_right (lo j) b.below, mul-le-mul_right (hi k) a.below))

pub within_more : {j k u v : ℕ} → j ≤ k → Within j u v → Within k u v
within_more {j} {k} h a = rw (add-sub_of_le h) at (within_through a (within_same {k = k - j} refl))

pub within_mul : {j k u v u' v' : ℕ} → Within j u v → Within k u' v' → Within (j + k) (u * u') (v * v')
within_mul {j} {k} a b = both j k (omega (arith, mul-le-mul a.above b.above)) (omega (arith, mul-le-mul a.below b.below))

pub within_add : {k u v u' v' : ℕ} → Within k u v → Within k u' v' → Within k (u + u') (v + v')
within_add a b = search rules

pub within_scale : {k u v : ℕ} (s : ℕ) → Within k u v → Within k (u * s) (v * s)
within_scale s a = omega (arith, mul-le-mul_right s a.above, mul-le-mul_right s a.below)

pub within_cancel : {k u v : ℕ} (s : ℕ) → 0 < s → Within k (u * s) (v * s) → Within k u v
within_cancel s p a = record { above = le_of_mul-le-mul_right {k = s} (omega arith) p; below = le_of_mul-le-mul_right {k = s} (omega arith) p }

-- ---- parts and shares: `Share s n u v` says that u and v differ by s / n of v at most
pub record Share (s n u v : ℕ) : Type 0 where
  pub above : u * n ≤ v * n + s * v
  pub below : v * n ≤ u * n + s * v

flat : (k m u v : ℕ) → m + k ≡ E → u * lo k ≤ v * hi k → u * m ≤ v * E
flat k m u v e h = le_of_mul-le-mul_right {k = lo k} (omega (arith, mul-le-mul_right m h, mul-le-mul_left v (parts_most k m e))) (lo_pos k)

-- k parts are a share of 1 / n at most, where k * (n + 1) ≤ 2 ^ 53 + 1
pub within_share : {k u v : ℕ} (n : ℕ) → 0 < n → k * (n + 1) ≤ 2 ^ 53 + 1 → Within k u v → Share 1 n u v
within_share {k} {u} {v} n N few a = let one : k * 1 ≤ k * n = mul-le-mul_left k N in go (E - k) (omega arith) (omega arith)
  where
    go : (m : ℕ) → m + k ≡ E → 0 < m → Share 1 n u v
    go m e M =
        let up = mul-le-mul_right n (flat k m u v e a.above) in
        let down = mul-le-mul_right n (flat k m v u e a.below) in
        let room = mul-le-mul_left v few in
        let whole = ap (λ (z : ℕ). v * z) e in
        let wholes = ap (λ (z : ℕ). v * z * n) e in
        record {
          above = le_of_mul-le-mul_right {k = m} (omega (arith, up, room, whole, wholes)) M;
          below = le_of_mul-le-mul_right {k = E} (omega (arith, down, room, whole, wholes)) (lit< tt);
        }

-- as a factor of two
pub within_twice : {k u v : ℕ} → k ≤ 2 ^ 52 → Within k u v → u ≤ 2 * v
within_twice few a = omega (arith, (within_share 1 (lit< tt) (omega arith) a).above)

-- a share of s / n is k parts at most, where s * (2 ^ 53 + k) ≤ k * n
pub share_within : {s n u v : ℕ} (k : ℕ) → 0 < n → s * (2 ^ 53 + k) ≤ k * n → Share s n u v → Within k u v
share_within {s} {n} {u} {v} k N few a =
    let up = mul-le-mul_right D a.above in
    let down = mul-le-mul_right (D + k) a.below in
    let room = mul-le-mul_left v few in
    record {
      above = steep u v (le_of_mul-le-mul_right {k = n} (omega (arith, up, room)) N);
      below = steep v u (le_of_mul-le-mul_right {k = n} (omega (arith, down, room)) N);
    }
  where
    steep : (u v : ℕ) → u * D ≤ v * (D + k) → u * lo k ≤ v * hi k
    steep u v h = le_of_mul-le-mul_right {k = D} (omega (arith, mul-le-mul_right (lo k) h, mul-le-mul_left v (parts_least k))) (lit< tt)

-- ---- a difference w = v - v' that is 1 / c of v at least: the share of an error grows by 2 * c at most
module _ {n u v u' v' : ℕ} (c w : ℕ) (N : 0 < n) (few : 2 * c ≤ n) (e : w + v' ≡ v) (h : v ≤ c * w) (a : Share 1 n u v) (b : Share 1 n u' v') where
  pub share_order : u' ≤ u
  share_order = le_of_mul-le-mul_right {k = n} (omega (arith, mul-le-mul_right w few, ap (λ (z : ℕ). z * n) e)) N

  pub share_sub : (z : ℕ) → z + u' ≡ u → Share (2 * c) n z w
  share_sub z f = omega (arith, ap (λ (z : ℕ). z * n) e, ap (λ (z : ℕ). z * n) f)

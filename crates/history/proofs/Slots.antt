-- The fifteen slots that a history's observations make: how a new one turns them, and that what the loss ratio reads of them is the history's window in
-- another order. Assumes nothing.
use Rattle.std.proofs.Common.{rules, ℕ, zero, suc, ◌+◌, ◌-◌, ◌%◌, ◌≤◌, ◌<◌, ◌≡◌, refl, inl, inr, Bool, true, false, cond, List, [], ◌∷◌, ◌++◌, map, reverse, append-nil, add-zero, eq-or-lt_of_le, arith, length, take, drop, set, replicate, take-append-drop, length-take-le, take_at, drop_at}
use mathlib.Core.List.{filter_map, reverse_aux, reverse-cons, reverse-append}
use mathlib.Core.List.Permᴰ
use mathlib.Core.List.{Permᴰ}
use mathlib.Core.Option.{Option, none, some, Option-elim}
use lib.Ieee.{in_float}
use lib.ListN.{length-reverse, length-replicate, replicate-append-replicate}
use lib.Seq.{take-length, drop-length, take-append-le, drop-append-le, set_at, append_snoc}
use Rattle.std.specs.List.{All}
use Rattle.std.proofs.lemmas.List.Elements.{All-head, All-tail}
use Rattle.rounding.specs.Exact.{Measured, Sound}
use Rattle.observation.specs.Ratio as Ratio
use Rattle.observation.specs.declared.Observation.{Observation}
use Rattle.history.specs.History.{Sums}
use Rattle.history.specs.WeighedPairs.{pair_of, aged}

-- ---- a list turned at r: the first r backwards, then the others backwards
module _ {A : Type 0} where
  unfoldable pub turned : ℕ → List A → List A
  turned r l = reverse (take r l) ++ reverse (drop r l)

  turned_perm : (r : ℕ) (l : List A) → Permᴰ (turned r l) l
  unfolding turned
  turned_perm r l =
      let first = Permᴰ.append_right (reverse (drop r l)) (Permᴰ.reverse (take r l)) in
      Permᴰ.trans first (rw (take-append-drop r l) at (Permᴰ.append_left (take r l) (Permᴰ.reverse (drop r l))))

  -- to set place r is to drop the last, which stands there, and to put another first
  turned_set : (l : List A) (x v : A) (r : ℕ) → r ≤ length l → set (turned r (l ++ (x ∷ []))) r v ≡ turned (suc r) (v ∷ l)
  unfolding turned
  turned_set l x v r h =
      search (rules, take-append-le, drop-append-le, reverse-append, reverse-cons, set_at, append_snoc, length-reverse, length-take-le)

  turned_all : (l : List A) → turned (length l) l ≡ turned 0 l
  unfolding turned
  turned_all l = search (rules, take-length, drop-length, append-nil)

  turned_next : (n : ℕ) (l : List A) → length l ≡ 15 → turned (suc (n % 15)) l ≡ turned ((n + 1) % 15) l
  turned_next n l h =
      let most : n % 15 ≤ 14 = omega arith in
      elim (eq-or-lt_of_le most) [
        | inl e ↦ let z : (n + 1) % 15 ≡ 0 = omega arith in rw (e, z) (rw h at (turned_all l))
        | inr k ↦ let z : (n + 1) % 15 ≡ suc (n % 15) = omega arith in rw z
      ]

  backwards_same : (a : A) (m k : ℕ) → reverse_aux (replicate m a) (replicate k a) ≡ replicate (m + k) a
  backwards_same a zero k = search rules
  backwards_same a (suc m) k = search (rules, backwards_same a m (suc k))

  turned_same : (a : A) (r k : ℕ) → turned r (replicate (r + k) a) ≡ replicate (r + k) a
  unfolding turned
  turned_same a r k =
      rw (
        ← (replicate-append-replicate r k a),
        take_at (replicate r a) (replicate k a) r (length-replicate r a),
        drop_at (replicate r a) (replicate k a) r (length-replicate r a),
      )
      (rw (backwards_same a r 0, backwards_same a k 0, add-zero r, add-zero k))

-- ---- the slots, of elements newest first
module _ {A : Type 0} where
  -- m places by age, the newest element being the n-th observation: each beside its id, and none past the last
  unfoldable pub by_age : ℕ → ℕ → List A → List (Option (ℕ × A))
  by_age zero n l = []
  by_age (suc m) n [] = none ∷ by_age m n []
  by_age (suc m) n (a ∷ l) = some (n - 1, a) ∷ by_age m (n - 1) l

  -- the slots in order: with r = n % 15, the ages from r - 1 down to 0, then those from 14 down to r
  unfoldable pub slots : ℕ → List A → List (Option (ℕ × A))
  slots n l = turned (n % 15) (by_age 15 n l)

  -- without elements they are empty, at any count
  pub slots_empty : (n : ℕ) → slots n [] ≡ replicate 15 none
  unfolding slots by_age
  slots_empty n = let e : n % 15 + (15 - n % 15) ≡ 15 = omega arith in rw e at (turned_same {A = Option (ℕ × A)} none (n % 15) (15 - n % 15))

  by_age_length : (m n : ℕ) (l : List A) → length (by_age m n l) ≡ m
  unfolding by_age
  by_age_length zero n l = refl
  by_age_length (suc m) n [] = search (rules, by_age_length m n [])
  by_age_length (suc m) n (a ∷ l) = search (rules, by_age_length m (n - 1) l)

  by_age_take : (m n : ℕ) (l : List A) → by_age m n (take m l) ≡ by_age m n l
  unfolding by_age
  by_age_take zero n l = refl
  by_age_take (suc m) n [] = refl
  by_age_take (suc m) n (a ∷ l) = search (rules, by_age_take m (n - 1) l)

  by_age_last : (m n : ℕ) (l : List A) → (x : Option (ℕ × A)) × (by_age (suc m) n l ≡ by_age m n l ++ (x ∷ []))
  unfolding by_age
  by_age_last zero n [] = (_, refl)
  by_age_last zero n (a ∷ l) = (_, refl)
  by_age_last (suc m) n [] = let last = by_age_last m n [] in (last.0, rw last.1)
  by_age_last (suc m) n (a ∷ l) = let last = by_age_last m (n - 1) l in (last.0, rw last.1)

  by_age_new : (m n : ℕ) (a : A) (l : List A) → by_age (suc m) (n + 1) (take (suc m) (a ∷ l)) ≡ some (n, a) ∷ by_age m n l
  unfolding by_age
  by_age_new m n a l = search (rules, by_age_take)

  -- a new element is set at n % 15, and a sixteenth is gone
  pub slots_turn : (n : ℕ) (a : A) (l : List A) → set (slots n l) (n % 15) (some (n, a)) ≡ slots (n + 1) (take 15 (a ∷ l))
  unfolding slots
  slots_turn n a l =
      let last = by_age_last 14 n l in
      let set = turned_set (by_age 14 n l) last.0 (some (n, a)) (n % 15) in
      search (rules, last.1, set, turned_next n (some (n, a) ∷ by_age 14 n l), by_age_length, by_age_new 14 n a l)

-- ---- what the loss ratio reads

abbrev pub sums_of : Observation → Sums
sums_of o = record { bytes = o.size; lost_bytes = o.lost_size; packets = o.num_packets; lost_packets = o.num_lost_packets }

-- of a slot: the id and the sums, where it is initialised
unfoldable pub held : Observation → Option (ℕ × Sums)
held o = cond o.is_initialized (some (o.id, sums_of o)) none

age_is : (n k : ℕ) → 0 < k → Ratio.age (n + k) (k - 1) ≡ n
unfolding Ratio.age
age_is n k h = search rules

module _ (use_bytes : Bool) where
  abbrev seen : ℕ → Option (ℕ × Sums) → Option Measured
  seen n none = none
  seen n (some (id, s)) = some (record { age = Ratio.age n id; total = (pair_of use_bytes s).total; lost = (pair_of use_bytes s).lost })

  by_age_seen : (n m k : ℕ) (l : List Sums) → length l ≤ m → length l ≤ k → filter_map (seen (n + k)) (by_age m k l) ≡ aged n (map (pair_of use_bytes) l)
  unfolding filter_map Option-elim by_age aged
  by_age_seen n zero k [] h l = refl
  by_age_seen n zero k (s ∷ ss) h l = absurd (omega arith)
  by_age_seen n (suc m) k [] h l = search (rules, by_age_seen n m k [])
  by_age_seen n (suc m) k (s ∷ ss) h l = search (rules, age_is, by_age_seen (n + 1) m (k - 1) ss)

window_is : (use_bytes : Bool) (n : ℕ) (os : List Observation) → Ratio.window use_bytes n os ≡ filter_map (seen use_bytes n) (map held os)
unfolding Ratio.window held filter_map Option-elim
window_is use_bytes n [] = refl
window_is use_bytes n (o ∷ os) = search (rules, window_is use_bytes n os)

-- by bytes both sizes go to floats, and packets are not asked
sound_floats : (use_bytes : Bool) (n : ℕ) (o : Observation) → Sound (Ratio.measured use_bytes n o) → Ratio.floats use_bytes o ≡ true
unfolding in_float
sound_floats use_bytes n o s = search rules

-- a sound window can be read
pub sound_readable : (use_bytes : Bool) (n : ℕ) (os : List Observation) → All Sound (Ratio.window use_bytes n os) → Ratio.readable use_bytes os ≡ true
unfolding Ratio.window Ratio.readable
sound_readable use_bytes n [] s = refl
sound_readable use_bytes n (o ∷ os) s = go o.is_initialized refl s (sound_readable use_bytes n os)
  where
    go : (b : Bool) → o.is_initialized ≡ b
        → All Sound (cond b (Ratio.measured use_bytes n o ∷ Ratio.window use_bytes n os) (Ratio.window use_bytes n os))
        → (All Sound (Ratio.window use_bytes n os) → Ratio.readable use_bytes os ≡ true) → Ratio.readable use_bytes (o ∷ os) ≡ true
    go true e s rest =
        let m = Ratio.measured use_bytes n o in
        let ms = Ratio.window use_bytes n os in
        rw (e, sound_floats use_bytes n o (All-head Sound m ms s)) (rest (All-tail Sound m ms s))
    go false e ss rest = rw e (rest ss)

-- the window that the ratio reads of slots that hold a history's observations is the history's, in another order
pub slots_window : (use_bytes : Bool) (n : ℕ) (ss : List Sums) (os : List Observation) → map held os ≡ slots n ss → length ss ≤ n → length ss ≤ 15
    → Permᴰ (Ratio.window use_bytes n os) (aged 0 (map (pair_of use_bytes) ss))
unfolding slots
slots_window use_bytes n ss os same counted few =
    let perm = turned_perm (n % 15) (by_age 15 n ss) in
    search (rules, window_is, same, by_age_seen use_bytes 0 15 n ss, Permᴰ.filter_map (seen use_bytes n) perm)

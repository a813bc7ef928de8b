-- What the loss ratio and the ceiling of observations are to the history whose window they hold. Assumes nothing.
use Rattle.std.proofs.Common.{rules, ◌≡◌, ℕ, ◌+◌, ◌-◌, ◌*◌, ◌≤◌, ◌<◌, Bool, true, List, [], ◌∷◌, length, map, Ok, Float, mul-pos, arith}
use mathlib.Core.List.{Permᴰ}
use native.Mathlib.Nat.{one-le-pow}
use lib.ListN.{length-map}
use Rattle.std.proofs.lemmas.List.Sums.{sum_by-cons}
use Rattle.std.specs.List.{All}
use Rattle.bandwidth.specs.Rate as Rate
use Rattle.bandwidth.specs.declared.Bitrate.{Bitrate}
use Rattle.rounding.specs.Exact.{Measured, Sound, exact_sum, exact_total, Close, AtMostOne}
use Rattle.rounding.specs.Ratio.{loss_ratio, loss_ceiling}
use Rattle.rounding.proofs.Ratio.{ratio_at_most_one}
use Rattle.rounding.proofs.Ceiling.{Capped}
use Rattle.rounding.proofs.AnyOrder.{all_perm, length_perm, close_any_order, ceiling_any_order}
use Rattle.observation.specs.Ratio as Ratio
use Rattle.observation.specs.declared.Observations.{Observations}
use Rattle.history.specs.History.{History}
use Rattle.history.specs.WeighedPairs.{Pair, pair_of, pairs, aged, window, weighed_lost, weighed_total, all_totals}
use Rattle.history.proofs.Kept.{Kept, window_short, window_sound}
use Rattle.history.proofs.Slots.{held, slots, slots_window, sound_readable}

-- where something is counted, there is a pair
some_pair : (ps : List Pair) → 0 < all_totals ps → 0 < length ps
some_pair [] h = h
some_pair (p ∷ ps) h = omega arith

-- what is counted weighs something, whatever its age
aged_some : (newer : ℕ) (ps : List Pair) → 0 < all_totals ps → 0 < exact_total (aged newer ps)
unfolding aged exact_sum
aged_some newer [] h = h
aged_some newer (p ∷ ps) h =
    grind (arith, aged_some (newer + 1) ps, mul-pos, one-le-pow newer 9, one-le-pow (14 - newer) 10, sum_by-cons (λ (p : Pair). p.total) p ps)

-- what the loss ratio reads of the slots, and the count, are the history's
pub record Windowed (o : Observations) (h : History) : Type 0 where
  pub count : o.num_observations ≡ h.count
  pub slots : map held o.observations ≡ slots h.count h.observations
  pub kept : Kept h

-- the ratio of such observations, and the ceiling that it sets
abbrev pub ratio_of : Observations → Float
ratio_of o = loss_ratio (Ratio.window o.use_byte_loss_ratio o.num_observations o.observations)

abbrev pub ceiling_of : Observations → Bitrate
ceiling_of o = Ratio.instant_limit (ratio_of o)

module _ (o : Observations) (h : History) (w : Windowed o h) where
  abbrev use_bytes : Bool
  use_bytes = o.use_byte_loss_ratio

  -- the window that the ratio reads
  abbrev read : List Measured
  read = Ratio.window use_bytes o.num_observations o.observations

  any_order : Permᴰ read (window use_bytes h)
  any_order = search (rules, slots_window)

  sound : All Sound (window use_bytes h)
  sound = window_sound use_bytes h w.kept

  short : length (window use_bytes h) ≤ 15
  short = window_short use_bytes h w.kept

  -- it can be read
  pub readable : Ratio.readable use_bytes o.observations ≡ true
  readable = search (rules, sound_readable, all_perm Sound any_order sound)

  -- so the ratio is not refused, nor is the ceiling
  pub ratio_taken : Ratio.average_reported_loss_ratio o ≡ Ok (ratio_of o)
  unfolding Ratio.average_reported_loss_ratio
  ratio_taken = search (rules, readable)

  pub ceiling_taken : Ratio.instant_upper_bound o ≡ Ok (ceiling_of o)
  unfolding Ratio.instant_upper_bound
  ceiling_taken = search (rules, ratio_taken)

  -- and the ratio is 1 at most
  pub ratio_bounded : AtMostOne (ratio_of o)
  ratio_bounded = ratio_at_most_one read (all_perm Sound any_order sound) (rw (length_perm any_order) short)

  module _ (some : 0 < all_totals (pairs use_bytes h)) where
    -- an observation is complete
    pub counted : 0 < o.num_observations
    counted = omega (arith, some_pair (pairs use_bytes h) some, length-map h.observations (pair_of use_bytes), w.count, w.kept.counted)

    -- the ratio is within r/2^46 of the history's r
    pub ratio_near : Close (ratio_of o) (weighed_lost use_bytes h) (weighed_total use_bytes h)
    ratio_near = search (rules, close_any_order, any_order, sound, short, aged_some)

    -- where r is at least 0.06, the ceiling is that of the ratio, within one part in 2^40 of the history's
    pub ceiling_near : 6 * weighed_total use_bytes h ≤ 100 * weighed_lost use_bytes h
        → (Ratio.valid_or_max (ceiling_of o) ≡ Rate.rate (loss_ceiling (ratio_of o)))
        × Capped (loss_ceiling (ratio_of o)) (weighed_lost use_bytes h) (weighed_total use_bytes h)
    unfolding Ratio.instant_limit Ratio.valid_or_max
    ceiling_near six =
        let sets = ceiling_any_order read (window use_bytes h) any_order sound short (aged_some 0 (pairs use_bytes h) some) six in
        search (rules, sets.taken, sets.capped)

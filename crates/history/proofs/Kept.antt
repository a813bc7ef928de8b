-- What a history keeps that no report beyond code 10 is told to: at most fifteen observations and no more than the count, none with a total above 10^12
-- or with more lost than sent, by either measure. Its window is one that `rounding` bounds. Assumes nothing.
use Rattle.std.proofs.Common.{rules, ℕ, ◌+◌, ◌^◌, ◌≤◌, ◌≡◌, refl, Bool, List, [], ◌∷◌, arith, length, length-take}
use lib.ListN.{length-map}
use Rattle.std.specs.List.{All}
use Rattle.std.proofs.lemmas.List.Elements.{All-nil, All-cons, All-head, All-tail, All-take, All-map, All-weaker}
use Rattle.rounding.specs.Exact.{Sound}
use Rattle.history.specs.History.{Sums, History, fresh, completed}
use Rattle.history.specs.WeighedPairs.{Pair, pair_of, pairs, aged, window}

-- no more lost than sent
abbrev pub Part : Sums → Type 0
Part s = (use_bytes : Bool) → (pair_of use_bytes s).lost ≤ (pair_of use_bytes s).total

-- a pair so, of 10^12 at most
pub record SoundPair (p : Pair) : Type 0 where
  pub room : p.total ≤ 10 ^ 12
  pub part : p.lost ≤ p.total

abbrev pub SoundSums : Sums → Type 0
SoundSums s = (use_bytes : Bool) → SoundPair (pair_of use_bytes s)

pub record Kept (h : History) : Type 0 where
  pub few : length h.observations ≤ 15
  pub counted : length h.observations ≤ h.count
  pub sound : All SoundSums h.observations
  pub part : Part h.running

-- no observations
pub emptied_kept : (on : Bool) (count : ℕ) → Kept (record fresh { on = on; count = count })
emptied_kept on count = search (rules, All-nil)

-- one more
pub completed_kept : (h : History) (s : Sums) (sent : ℕ) → Kept h → SoundSums s → Kept (completed h s sent)
unfolding completed
completed_kept h s sent k sound =
    let more = All-cons SoundSums s h.observations sound k.sound in
    search (rules, length-take 15 (s ∷ h.observations), All-take SoundSums 15 (s ∷ h.observations) more)

-- ---- the window

aged_length : (newer : ℕ) (ps : List Pair) → length (aged newer ps) ≡ length ps
unfolding aged
aged_length newer [] = refl
aged_length newer (p ∷ ps) = search (rules, aged_length (newer + 1) ps)

-- ages below 15
aged_sound : (newer : ℕ) (ps : List Pair) → newer + length ps ≤ 15 → All SoundPair ps → All Sound (aged newer ps)
unfolding aged
aged_sound newer [] few sound = All-nil Sound
aged_sound newer (p ∷ ps) few sound =
    search (rules, All-cons Sound, All-head SoundPair p ps sound, aged_sound (newer + 1) ps, All-tail SoundPair p ps sound)

module _ (use_bytes : Bool) (h : History) (k : Kept h) where
  pub window_short : length (window use_bytes h) ≤ 15
  window_short = search (rules, aged_length, length-map)

  pub window_sound : All Sound (window use_bytes h)
  window_sound =
      aged_sound 0 (pairs use_bytes h) (omega (arith, length-map h.observations (pair_of use_bytes)))
      (All-map SoundPair (pair_of use_bytes) h.observations (All-weaker SoundSums _ (λ s sound. sound use_bytes) h.observations k.sound))

-- The window of a history, as demand 3 weighs it under a profile: true for bytes, false for packets. Definitions only.
use Rattle.std.specs.Prelude.{ℕ, ◌+◌, Bool, true, false, List, [], ◌∷◌, map, sum_by}
use Rattle.rounding.specs.Exact.{Measured, exact_lost, exact_total}
use Rattle.history.specs.History.{Sums, History}

-- a total and the lost part of it
pub record Pair : Type 0 where
  pub total : ℕ
  pub lost : ℕ

-- "An observation's pair is (bytes, lost bytes)"; "Under packets all of this counts packets where it says bytes" (Q-7)
abbrev pub pair_of : Bool → Sums → Pair
pair_of true s = record { total = s.bytes; lost = s.lost_bytes }
pair_of false s = record { total = s.packets; lost = s.lost_packets }

abbrev pub pairs : Bool → History → List Pair
pairs use_bytes h = map (pair_of use_bytes) h.observations

-- "A pair's age is the number of newer ones": so many are newer than the first of these
unfoldable pub aged : ℕ → List Pair → List Measured
aged newer [] = []
aged newer (p ∷ ps) = record { age = newer; total = p.total; lost = p.lost } ∷ aged (newer + 1) ps

-- "The window is the pairs"
abbrev pub window : Bool → History → List Measured
window use_bytes h = aged 0 (pairs use_bytes h)

-- "r is the sum of weight × lost bytes over that of weight × bytes", or of packets: the two sums
abbrev pub weighed_lost : Bool → History → ℕ
weighed_lost use_bytes h = exact_lost (window use_bytes h)

abbrev pub weighed_total : Bool → History → ℕ
weighed_total use_bytes h = exact_total (window use_bytes h)

-- "it has bytes if theirs sum to more than 0", or packets: their sum
abbrev pub all_totals : List Pair → ℕ
all_totals ps = sum_by (λ (p : Pair). p.total) ps

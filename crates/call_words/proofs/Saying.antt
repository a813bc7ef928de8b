-- What stands beside a word in a table. Assumes nothing.
use Rattle.std.proofs.Common.{◌≡◌, ℕ, ◌+◌, ◌<◌, ◌≤◌, true, false, Some, None, List, length, map, get_or, drop, add-one, drop_of_length-le, drop-cons, Bor}
use Rattle.call_words.specs.Words.{same, look_up}

module _ {T : Type 0} (table : List (Bor (List ℕ) × T)) where
  -- the entries from the place on
  abbrev pub ahead : ℕ → List (List ℕ × T)
  ahead k = map (λ entry. (entry.0.now, entry.1)) (drop k table)

  pub no_entry : (word : List ℕ) (i : ℕ) → length table ≤ i → look_up (ahead i) word ≡ None
  unfolding look_up
  no_entry word i h = simp (drop_of_length-le table h)

  module _ (word : List ℕ) (i : ℕ) (entry : Bor (List ℕ) × T) (h : i < length table) (e : entry ≡ get_or table i entry) where
    pub entry_here : same entry.0.now word ≡ true → look_up (ahead i) word ≡ Some entry.1
    unfolding look_up
    entry_here s = rw (drop-cons table i entry, ← e) (simp s)

    pub entry_ahead : same entry.0.now word ≡ false → look_up (ahead i) word ≡ look_up (ahead (i + 1)) word
    unfolding look_up
    entry_ahead s = rw (add-one, drop-cons table i entry, ← e) (simp s)

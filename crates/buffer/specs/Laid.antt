-- Bytes laid into a buffer. Definitions only.
use Rattle.std.specs.Prelude.{ℕ, ◌+◌, List, ◌++◌, length, take, drop}

-- s with the bytes p from index `from` on
abbrev pub laid : ℕ → List ℕ → List ℕ → List ℕ
laid from p s = take from s ++ (p ++ drop (from + length p) s)

-- Durations by their ns, which fit a u64 or are refused. Definitions only.
use Rattle.std.specs.Prelude.{ℕ, ◌-◌, ◌/◌, ◌^◌, if◌then◌else◌, ◌==◌, nat_le, nat_lt, Result, Ok, Err}
use Rattle.refusal.specs.declared.Refusal.{Refusal}
use Rattle.refusal.specs.declared.Refusal.TheVariants.{Arithmetic}
use Rattle.duration.specs.declared.Duration.{Duration}

-- n ns
abbrev pub ns : ℕ → Duration
ns n = record { nanos = n }

-- "an arithmetic result that fits no .. u64 ns" is refused
unfoldable pub fitted : ℕ → Result Duration Refusal
fitted n = if nat_lt n (2 ^ 64) then Ok (ns n) else Err Arithmetic

-- a difference below 0 fits no u64
unfoldable pub minus : ℕ → ℕ → Result Duration Refusal
minus a b = if nat_le b a then Ok (ns (a - b)) else Err Arithmetic

-- the whole part of a quotient, refused where the number divided by is 0
unfoldable pub over : ℕ → ℕ → Result Duration Refusal
over a b = if b == 0 then Err Arithmetic else Ok (ns (a / b))

-- Whole numbers that go into an i64, or are refused with 7. Definitions only.
use Rattle.std.specs.Prelude.{◌^◌, Bool, if◌then◌else◌, ℕ, ℤ, pos, negsuc, nat_lt, Result, Ok, Err}
use Rattle.std.specs.Int.Signed.{mag}
use Rattle.refusal.specs.declared.Refusal.{Refusal}
use Rattle.refusal.specs.declared.Refusal.TheVariants.{Arithmetic}

-- whether an i64 holds z, from -2^63 to 2^63 - 1 (`mag` is n at n, and n at -1 - n)
unfoldable pub in_i64 : ℤ → Bool
in_i64 z = nat_lt (mag z) (2 ^ 63)

-- z ("an arithmetic result that fits no i64 size" is refused)
unfoldable pub fitted : ℤ → Result ℤ Refusal
fitted z = if in_i64 z then Ok z else Err Arithmetic

-- z, refused where it is negative
unfoldable pub unsigned : ℤ → Result ℕ Refusal
unsigned (pos n) = Ok n
unsigned (negsuc n) = Err Arithmetic

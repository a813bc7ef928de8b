-- The numbers of the refusals ("Codes from the input", "Codes from the state"). Definitions only.
use Rattle.std.specs.Prelude.{ℕ}
use Rattle.refusal.specs.declared.Refusal.{Refusal}
use Rattle.refusal.specs.declared.Refusal.TheVariants.{NotInShape, Rate, Time, UnequalColumns, TooManyPackets, NoLogarithm, Arithmetic, Flag, RunningSums, Observations, QueueFull, NoRoom, PacketSize}

abbrev pub code : Refusal → ℕ
code NotInShape = 1
code Rate = 2
code Time = 3
code UnequalColumns = 4
code TooManyPackets = 5
code NoLogarithm = 6
code Arithmetic = 7
code Flag = 8
code RunningSums = 10
code Observations = 11
code QueueFull = 12
code NoRoom = 13
code PacketSize = 17

-- A call carries a rate as 64 bits, and no rate is lost by that. Assumes nothing.
use Rattle.std.proofs.Common.{rules, ◌^◌, ◌<◌, ◌≡◌, T}
use lib.Ieee.{binary64, fits, to_bits}
use lib.Ieee.Bits.{of_bits-to_bits, to_bits-lt}
use Rattle.bandwidth.specs.declared.Bitrate.{Bitrate}
use Rattle.loss_controller.specs.Setters.{rate_of}

-- every rate that is a float of binary64 is the rate of 64 bits: its own, where the NaNs, whose bits nothing here reads, are one
pub every_rate : (r : Bitrate) → T (fits binary64 r.bps) → (to_bits binary64 r.bps < 2 ^ 64) × (rate_of (to_bits binary64 r.bps) ≡ r)
every_rate r f = search (rules, to_bits-lt, of_bits-to_bits)

-- The difference that `congested` takes is not refused. Assumes nothing.
use Rattle.std.proofs.Common.{◌≡◌, true, Ok}
use Rattle.std.specs.Float.Ieee.{le, lt}
use Rattle.float.specs.Rounded.{◌⊖◌}
use Rattle.bandwidth.specs.Rate.{minus, rate}
use Rattle.bandwidth.specs.declared.Bitrate.{Bitrate}

pub difference_taken : (sending limited : Bitrate) → lt limited.bps sending.bps ≡ true → minus sending limited ≡ Ok (rate (sending.bps ⊖ limited.bps))
unfolding minus le
difference_taken sending limited h = rw h

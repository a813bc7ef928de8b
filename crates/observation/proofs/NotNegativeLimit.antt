-- The ceiling that a loss ratio sets is not negative. Assumes nothing.
use Rattle.std.proofs.Common.{T}
use lib.Ieee.{Float, binary64, eq, lt, of_bits}
use lib.Ieee.Bits.{of_bits-fits}
use Rattle.float.specs.Rounded.{bits}
use Rattle.float.proofs.NotNegative.{NotNegative, inf_not_negative}
use Rattle.float.proofs.Refusal.{tested}
use Rattle.bandwidth.specs.Rate as Rate
use Rattle.bandwidth.specs.declared.Bitrate.{Bitrate}
use Rattle.bandwidth.proofs.NotNegativeRate.{NotNegativeRate}
use Rattle.config.specs.Config as Config
use Rattle.rounding.specs.Plain.{plain}
use Rattle.rounding.specs.Ratio.{loss_ceiling}
use Rattle.rounding.proofs.Upward.{sub_not_negative, div_not_negative}
use Rattle.observation.specs.Ratio as Ratio

over_not_negative : (r : Bitrate) (x : Float) → T (plain r.bps) → NotNegative x → NotNegativeRate (Rate.over r x)
unfolding Rate.over
over_not_negative r x p n =
    tested NotNegativeRate (eq x (bits 0)) (λ z. record { holds = of_bits-fits binary64 0; above = unfold of_bits in tt }) (div_not_negative r.bps x p n)

-- whatever the ratio
pub limit_not_negative : (ratio : Float) → NotNegativeRate (Ratio.instant_limit ratio)
unfolding Ratio.instant_limit loss_ceiling of_bits
limit_not_negative ratio =
    tested NotNegativeRate (lt Config.instant_upper_bound_loss_offset ratio)
    (λ l. over_not_negative Config.instant_upper_bound_bandwidth_balance _ tt (sub_not_negative ratio _ tt l))
    (λ l. inf_not_negative)

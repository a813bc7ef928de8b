-- A report over packet records. Definitions only.
use Rattle.std.specs.Prelude.{ℕ, List, map, Result}
use Rattle.refusal.specs.declared.Refusal.{Refusal}
use Rattle.bandwidth.specs.declared.Bitrate.{Bitrate}
use Rattle.packets.specs.declared.PacketResult.{PacketResult}
use Rattle.loss_controller.specs.Report.{update_bandwidth_estimate}
use Rattle.loss_controller.specs.declared.LossController.{LossController}

-- ---- the columns of records

abbrev pub times : List PacketResult → List ℕ
times records = map (λ (p : PacketResult). p.local_send_time) records

abbrev pub sizes : List PacketResult → List ℕ
sizes records = map (λ (p : PacketResult). p.size) records

abbrev pub flags : List PacketResult → List ℕ
flags records = map (λ (p : PacketResult). p.lost) records

-- "a thin form gives what its call gives"
abbrev pub update_records : LossController → List PacketResult → Bitrate → Result LossController Refusal
update_records c records delay = update_bandwidth_estimate c (times records) (sizes records) (flags records) delay

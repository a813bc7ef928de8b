-- What a line leaves, and its answer (document 01, "Call lists"). Definitions only.
use Rattle.std.specs.Prelude.{ℕ, ◌+◌, Bool, true, false, if◌then◌else◌, Option, Some, None, is_some, option_map, unwrap_or, Result, Ok, Err, List, [], ◌∷◌, ◌++◌, ltb, get_or, take, drop}
use Rattle.std.specs.Float.{binary64}
use Rattle.std.specs.Float.Ieee.{to_bits}
use Rattle.refusal.specs.Outcome.{number}
use Rattle.refusal.specs.declared.Refusal.{Refusal}
use Rattle.refusal.specs.declared.Refusal.TheVariants.{QueueFull}
use Rattle.bandwidth.specs.declared.Bitrate.{Bitrate}
use Rattle.estimator.specs.State.{number as state_number}
use Rattle.packets.specs.Summary.{most_packets}
use Rattle.packets.specs.declared.PacketResult.{PacketResult}
use Rattle.loss_controller.specs.Controller.{initial}
use Rattle.loss_controller.specs.Setters.{rate_of, set_bandwidth_estimate, set_acknowledged_bitrate, set_alr_start_time, set_link_capacity_estimate}
use Rattle.loss_controller.specs.Result.{loss_based_result, inherent_loss}
use Rattle.loss_controller.specs.declared.LossController.{LossController}
use Rattle.lent.specs.Records.{update_records}
use Rattle.call_line.specs.Column.{column, total}
use Rattle.call_line.specs.declared.Call.{Call}
use Rattle.call_line.specs.declared.Call.TheVariants.{Estimate, Acknowledged, AlrOn, AlrOff, CapacityIs, CapacityNone, Packet, Report, Read, StartBytes, StartPackets}
use Rattle.call_line.specs.declared.LineRefusal.{LineRefusal}
use Rattle.call_line.specs.declared.LineRefusal.TheVariants.{Report as LineRefusal-as-Report, Other}
use Rattle.call_list.specs.declared.Reading.{Reading}
use Rattle.call_list.specs.declared.Queue.{Queue}
use Rattle.call_list.specs.declared.Machine.{Machine as MachineStruct}

-- ---- what there is between two lines

-- the queue's places: as many as a report may have packets
abbrev pub places : ℕ
places = most_packets

-- the packets that are queued: the first of the places, or all where more are counted
abbrev pub packets_of : Queue → List PacketResult
packets_of q = take q.len q.packets

-- the packets that are queued, and how many are counted
pub record Machine : Type 0 where
  pub controller : LossController
  pub queue : List PacketResult
  pub queued : ℕ

abbrev pub machine_of : MachineStruct → Machine
machine_of m = record { controller = m.controller; queue = packets_of m.queue; queued = m.queue.len }

-- a fresh controller and an empty queue
abbrev pub started : Bool → Machine
started use_bytes = record { controller = initial use_bytes; queue = []; queued = 0 }

-- "a list without it runs by bytes" (Q-7)
abbrev pub fresh_machine : Machine
fresh_machine = started true

abbrev pub emptied : Machine → Machine
emptied m = record m { queue = []; queued = 0 }

abbrev pub with_packet : Machine → PacketResult → Machine
with_packet m p = record m { queue = m.queue ++ (p ∷ []); queued = m.queued + 1 }

-- ---- a line

pub record Answered : Type 0 where
  pub outcome : Result (Unit {0}) Refusal
  pub machine : Machine

-- "Any other refused line changes neither queue nor controller", and a read neither
abbrev pub answered : Result (Unit {0}) Refusal → Machine → Answered
answered outcome m = record { outcome = outcome; machine = m }

-- a call of the controller: refused, it leaves it
abbrev pub called : Machine → Result LossController Refusal → Answered
called m (Ok after) = answered (Ok tt) (record m { controller = after })
called m (Err refusal) = answered (Err refusal) m

-- "12: the queue holds 4,096 packets"
unfoldable pub packet_after : Machine → PacketResult → Answered
packet_after m p = if ltb m.queued places then answered (Ok tt) (with_packet m p) else answered (Err QueueFull) m

-- the report of the queue, which it empties
abbrev pub reported : Machine → Bitrate → Answered
reported m delay = called (emptied m) (update_records m.controller m.queue delay)

-- the table's calls
unfoldable pub call_after : Machine → Call → Answered
call_after m (Estimate rate) = called m (set_bandwidth_estimate m.controller (rate_of rate))
call_after m (Acknowledged rate) = called m (set_acknowledged_bitrate m.controller (rate_of rate))
call_after m (AlrOn start) = called m (set_alr_start_time m.controller (Some start))
call_after m AlrOff = called m (set_alr_start_time m.controller None)
call_after m (CapacityIs rate) = called m (set_link_capacity_estimate m.controller (Some (rate_of rate)))
call_after m CapacityNone = called m (set_link_capacity_estimate m.controller None)
call_after m (Packet time lost size) = packet_after m (record { local_send_time = time; size = size; lost = lost })
call_after m (Report delay) = reported m (rate_of delay)
call_after m Read = answered (Ok tt) m
-- "Line kind 8 starts a fresh controller and empties the queue" (Q-7)
call_after m StartBytes = answered (Ok tt) (started true)
call_after m StartPackets = answered (Ok tt) (started false)

-- "A kind 6 line that doesn't get code 1 empties the queue, whether or not another code follows."
unfoldable pub after_of : Machine → Result Call LineRefusal → Answered
after_of m (Ok call) = call_after m call
after_of m (Err (LineRefusal-as-Report refusal)) = answered (Err refusal) (emptied m)
after_of m (Err (Other refusal)) = answered (Err refusal) m

-- ---- what an answer reads of the controller

unfoldable pub reading_of : LossController → Reading
reading_of c =
    let result = loss_based_result c in
    record {
      state = result.state;
      rate = option_map (λ r. to_bits binary64 r.bps) result.bandwidth_estimate;
      inherent_loss = to_bits binary64 (inherent_loss c);
    }

-- "published (2, 1 or 0)"
abbrev pub published : Option ℕ → ℕ
published rate = if is_some rate then 1 else 0

-- "refusal (2, 0 if none), state (2: 0 DelayBased, 1 Increasing, 2 Decreasing), published (2, 1 or 0), rate (20, 0 if none), inherent loss (20)"
abbrev pub answer_widths : List ℕ
answer_widths = 2 ∷ 2 ∷ 2 ∷ 20 ∷ 20 ∷ []

-- the number n in the answer's column j
abbrev pub in_column : ℕ → ℕ → List ℕ
in_column j n = column (get_or answer_widths j 0) n

-- the bytes of the columns after the refusal, and of the newline
abbrev pub text_width : ℕ
text_width = total (drop 1 answer_widths) + 1

-- the columns after the refusal, and the newline
unfoldable pub text_of : Reading → List ℕ
text_of r =
    in_column 1 (state_number r.state)
    ++ (in_column 2 (published r.rate) ++ (in_column 3 (unwrap_or r.rate 0) ++ (in_column 4 r.inherent_loss ++ (10 ∷ []))))

unfoldable pub row_of : Result (Unit {0}) Refusal → Reading → List ℕ
row_of outcome r = in_column 0 (number outcome) ++ text_of r

-- Worked examples of the definitions in specs/, which antt computes. They test the definitions; no proof cites them.
use Rattle.std.specs.Prelude.{ℕ, ◌≡◌, Bool, List, [], ◌∷◌, replicate, Result, Ok, Err, refl}
use Rattle.std.specs.Float.Ieee.{lt, of_bits, to_bits}
use Rattle.refusal.specs.declared.Refusal.{Refusal}
use Rattle.refusal.specs.declared.Refusal.TheVariants.{Rate, Time, TooManyPackets, Flag, PacketSize}
use Rattle.float.specs.Rust.{sign_bit}
use Rattle.packets.specs.Summary.{check_columns, packets, check_packet, add_packet, summary_of}
use Rattle.packets.specs.declared.PacketResult.{PacketResult}
use Rattle.loss_controller.specs.Controller.{initial}
use Rattle.loss_controller.specs.Setters.{rate_of, check_rate}
use Rattle.loss_controller.specs.Report.{update_bandwidth_estimate, reported, with_delay_based_estimate}
use Rattle.loss_controller.specs.declared.LossController.{LossController}
use Rattle.lent.specs.Records.{times, sizes, flags, update_records}

abbrev sent : ℕ → ℕ → ℕ → PacketResult
sent time size flag = record { local_send_time = time; size = size; lost = flag }

-- the columns of two records
columns :
    let records = sent 30 100 0 ∷ sent 10 9999999 1 ∷ [] in
    times records ≡ 30 ∷ 10 ∷ [] × sizes records ≡ 100 ∷ 9999999 ∷ [] × flags records ≡ 0 ∷ 1 ∷ []
columns = (refl, refl, refl)

-- ---- reports to a fresh controller, of either profile

abbrev megabit : ℕ
megabit = 0x412E848000000000

abbrev negative : ℕ
negative = 0xC12E848000000000

-- a record that is sent too late, is too large and has a wrong flag, one with size and flag, and one with the flag alone
abbrev late : PacketResult
late = sent 4000000000000000001 10000000 2

abbrev large : PacketResult
large = sent 4000000000000000000 10000000 2

abbrev flagged : PacketResult
flagged = sent 4000000000000000000 9999999 2

module _ (use_bytes : Bool) where
  abbrev report : List PacketResult → ℕ → Result LossController Refusal
  report records delay = update_records (initial use_bytes) records (rate_of delay)

  -- 5 before 2, 2 before a record's 3, 3 before its 17, 17 before its 8, and the first record that has one before the others; 4,096 records are not too many
  order :
      report (replicate 4097 late) negative ≡ Err TooManyPackets
      × report (replicate 4097 late) megabit ≡ Err TooManyPackets
      × report (replicate 4096 late) negative ≡ Err Rate
      × report (replicate 4096 late) megabit ≡ Err Time
      × report (replicate 4096 large) negative ≡ Err Rate
      × report (replicate 4096 large) megabit ≡ Err PacketSize
      × report (replicate 4096 flagged) megabit ≡ Err Flag
      × report (sent 0 9 0 ∷ flagged ∷ late ∷ []) megabit ≡ Err Flag
      × report (sent 0 9 0 ∷ flagged ∷ large ∷ []) megabit ≡ Err Flag
      × report (sent 0 9 0 ∷ large ∷ late ∷ []) megabit ≡ Err PacketSize
      × report (sent 0 9 0 ∷ late ∷ large ∷ []) megabit ≡ Err Time
  unfolding update_bandwidth_estimate check_rate check_columns packets check_packet add_packet summary_of sign_bit lt of_bits to_bits
  order = (refl, refl, refl, refl, refl, refl, refl, refl, refl, refl, refl)

  -- "An empty report stores the delay estimate and does no more."
  empty : report [] megabit ≡ Ok (with_delay_based_estimate (initial use_bytes) (rate_of megabit))
  unfolding update_bandwidth_estimate reported check_rate check_columns packets summary_of sign_bit lt of_bits to_bits
  empty = refl

-- Worked examples of the definitions beside this file, which antt computes. They test the definitions; no proof cites them.
use Rattle.std.specs.Prelude.{ℕ, ◌≡◌, refl, Some, None, Ok, Err, Bool, true, false, List, [], ◌∷◌, ◌++◌, map, replicate}
use Rattle.std.specs.Result.{result_unwrap_or}
use Rattle.std.specs.Float.Ieee.{lt, of_bits, to_bits}
use Rattle.float.specs.Rust.{sign_bit}
use Rattle.observation.specs.Window.{cleared}
use Rattle.refusal.specs.declared.Refusal.TheVariants.{NotInShape, Flag}
use Rattle.loss_controller.specs.Controller.{initial}
use Rattle.loss_controller.specs.Setters.{rate_of, check_rate, set_bandwidth_estimate}
use Rattle.loss_controller.specs.Result as Result
use Rattle.packets.specs.Summary.{check_packet}
use Rattle.call_line.specs.Column.{is_digit, more, after_zero, digits_of, leading_spaces, column_of, column, row}
use Rattle.call_line.specs.Line.{wide, narrow, four, fields_in, fields_of, in_table, unless_refused, by_flag, packet_of, start_of}
use Rattle.call_line.specs.Line.{call_of, checked, refused, said, line_of}
use Rattle.call_line.specs.declared.Call.TheVariants.{Packet, Read}
use Rattle.call_line.specs.declared.LineRefusal.TheVariants.{Other}
use Rattle.call_list.specs.Pieces.{newline_behind, standing}
use Rattle.call_list.specs.Answer.{Machine, Answered, answered as leaves, started, call_after, after_of, reading_of, answer_widths, text_of, row_of}
use Rattle.call_list.specs.Whole.{last_line, lines_from, lines_of, answers_to, joined, answers}

-- a newline behind 48 bytes, behind 50, behind both, behind 49 and behind 51; 48 and 50 bytes without one
widths :
    map standing
    ((replicate 48 32 ++ (10 ∷ 32 ∷ 32 ∷ []))
    ∷ (replicate 50 32 ++ (10 ∷ []))
    ∷ (replicate 48 32 ++ (10 ∷ 32 ∷ 10 ∷ []))
    ∷ (replicate 49 32 ++ (10 ∷ []))
    ∷ (replicate 51 32 ++ (10 ∷ []))
    ∷ replicate 48 32
    ∷ replicate 50 32
    ∷ []) ≡
    Some 48 ∷ Some 50 ∷ Some 48 ∷ None ∷ None ∷ None ∷ None ∷ []
unfolding standing newline_behind
widths = refl

-- a packet in a line of 48 columns, one in 50, a read in 48 with a space behind it, and one in 48 that lacks its newline
both_widths :
    map line_of
    (lines_of
    (row narrow (5 ∷ 7 ∷ 1 ∷ 999999 ∷ [])
    ++ (10 ∷ row wide (5 ∷ 7 ∷ 1 ∷ 9999999 ∷ [])
    ++ (10 ∷ row narrow (7 ∷ 0 ∷ 0 ∷ 0 ∷ [])
    ++ (32 ∷ 10 ∷ row narrow (7 ∷ 0 ∷ 0 ∷ 0 ∷ [])))))) ≡
    Ok (Packet 7 1 999999) ∷ Ok (Packet 7 1 9999999) ∷ Err (Other NotInShape) ∷ Ok Read ∷ []
unfolding lines_from last_line row column line_of said checked refused fields_of fields_in four column_of leading_spaces digits_of is_digit more after_zero in_table call_of
    unless_refused packet_of check_packet
both_widths = refl

-- the answer of a fresh controller: no refusal, DelayBased, nothing published, an inherent loss of 0.01
abbrev fresh_answer : List ℕ
fresh_answer = row answer_widths (0 ∷ 0 ∷ 0 ∷ 0 ∷ 4576918229304087675 ∷ []) ++ (10 ∷ [])

answered : answers (row narrow (7 ∷ 0 ∷ 0 ∷ 0 ∷ []) ++ (10 ∷ row wide (7 ∷ 0 ∷ 0 ∷ 0 ∷ []))) ≡ fresh_answer ++ fresh_answer
unfolding answers answers_to joined lines_from last_line row column line_of said checked refused fields_of fields_in four column_of leading_spaces digits_of is_digit more after_zero
    in_table call_of after_of call_after row_of text_of reading_of Result.loss_based_result Result.published to_bits of_bits
answered = refl

-- ---- kind 8 (Q-7)

abbrev megabit : ℕ
megabit = 4696837146684686336

-- an estimate of 1 Mbit/s, a count of 7 observations, and two packets in the queue
abbrev used : Bool → Machine
used use_bytes =
    record {
      controller =
          record (result_unwrap_or (set_bandwidth_estimate (initial use_bytes) (rate_of megabit)) (initial use_bytes)) { observations = cleared use_bytes 7 };
      queue = record { local_send_time = 7; size = 1200; lost = 0 } ∷ record { local_send_time = 8; size = 60; lost = 1 } ∷ [];
      queued = 2;
    }

-- the line of kind 8 with this A and B, after a controller of either profile
start : Machine → ℕ → ℕ → Answered
start m a b = after_of m (line_of (row wide (8 ∷ a ∷ b ∷ 0 ∷ [])))

-- the other profile and the same: estimate, count and queue are gone
restarted :
    (start (used true) 0 1 ≡ leaves (Ok tt) (started false))
    × (start (used true) 0 0 ≡ leaves (Ok tt) (started true))
    × (start (used false) 0 0 ≡ leaves (Ok tt) (started true))
    × (start (used false) 0 1 ≡ leaves (Ok tt) (started false))
unfolding start row column line_of said checked refused fields_of fields_in four column_of leading_spaces digits_of is_digit more after_zero in_table call_of by_flag start_of after_of
    call_after
restarted = (refl, refl, refl, refl)

-- refused, nothing is
not_restarted :
    (start (used true) 0 2 ≡ leaves (Err Flag) (used true))
    × (start (used true) 1 1 ≡ leaves (Err NotInShape) (used true))
unfolding start row column line_of said checked refused fields_of fields_in four column_of leading_spaces digits_of is_digit more after_zero in_table call_of by_flag start_of after_of
not_restarted = (refl, refl)

-- an estimate, a start that is refused, a start by packets, a read and a start by bytes
list_restarted :
    answers
    (row wide (1 ∷ megabit ∷ 0 ∷ 0 ∷ [])
    ++ (10 ∷ row wide (8 ∷ 0 ∷ 2 ∷ 0 ∷ [])
    ++ (10 ∷ row wide (8 ∷ 0 ∷ 1 ∷ 0 ∷ [])
    ++ (10 ∷ row wide (7 ∷ 0 ∷ 0 ∷ 0 ∷ [])
    ++ (10 ∷ row narrow (8 ∷ 0 ∷ 0 ∷ 0 ∷ [])))))) ≡
    (row answer_widths (0 ∷ 0 ∷ 1 ∷ megabit ∷ 4576918229304087675 ∷ []) ++ (10 ∷ []))
    ++ ((row answer_widths (8 ∷ 0 ∷ 1 ∷ megabit ∷ 4576918229304087675 ∷ []) ++ (10 ∷ [])) ++ (fresh_answer ++ (fresh_answer ++ fresh_answer)))
unfolding answers answers_to joined lines_from last_line row column line_of said checked refused fields_of fields_in four column_of leading_spaces digits_of is_digit more after_zero
    in_table call_of by_flag start_of unless_refused after_of call_after row_of text_of reading_of Result.loss_based_result Result.published
    check_rate set_bandwidth_estimate cleared sign_bit lt to_bits of_bits
list_restarted = refl

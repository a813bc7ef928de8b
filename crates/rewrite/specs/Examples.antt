-- Worked examples of the definitions beside this file, which antt computes. They test the definitions; no proof cites them.
use Rattle.std.specs.Prelude.{ℕ, ◌^◌, ◌≡◌, refl, List, [], ◌∷◌, ◌++◌}
use Rattle.std.specs.Float.Ieee.{of_bits, to_bits, lt}
use Rattle.float.specs.Rust.{sign_bit}
use Rattle.loss_controller.specs.Setters.{check_rate}
use Rattle.call_line.specs.Column.{is_digit, more, after_zero, digits_of, leading_spaces, column_of, column, row}
use Rattle.call_line.specs.Line.{wide, narrow, four, fields_in, fields_of, in_table, unless_refused, by_flag, alr_of, call_of, values_of, checked, refused as refusal_of, said, line_of}
use Rattle.call_line.specs.Write.{line_text}
use Rattle.call_list.specs.Whole.{last_line, lines_from, joined}
use Rattle.rewrite.specs.Rewrite.{refusal_text, rewritten_from, rewritten, closed}

-- a read, as document 01's example has it
abbrev read : List ℕ
read = row wide (7 ∷ 0 ∷ 0 ∷ 0 ∷ [])

-- a wide line that is taken comes back
accepted : rewritten (closed read) ≡ closed read
unfolding rewritten_from lines_from last_line joined line_text values_of row column line_of said checked refusal_of fields_of fields_in four column_of leading_spaces digits_of is_digit
    more after_zero in_table call_of
accepted = refl

-- one of 48 columns comes back with 50
narrow_line : rewritten (closed (row narrow (7 ∷ 0 ∷ 0 ∷ 0 ∷ []))) ≡ closed read
unfolding rewritten_from lines_from last_line joined line_text values_of row column line_of said checked refusal_of fields_of fields_in four column_of leading_spaces digits_of is_digit
    more after_zero in_table call_of
narrow_line = refl

-- and with its newline, if it is the last and lacks it
open_line : rewritten read ≡ closed read
unfolding rewritten_from lines_from last_line joined line_text values_of row column line_of said checked refusal_of fields_of fields_in four column_of leading_spaces digits_of is_digit
    more after_zero in_table call_of
open_line = refl

-- ALR with the flag 2: " 8"
refused : rewritten (closed (row wide (3 ∷ 0 ∷ 2 ∷ 0 ∷ []))) ≡ 32 ∷ 56 ∷ 10 ∷ []
unfolding rewritten_from lines_from last_line joined refusal_text row column line_of said checked refusal_of fields_of fields_in four column_of leading_spaces digits_of is_digit more
    after_zero in_table call_of by_flag alr_of
refused = refl

-- a report whose delay estimate is -0.0: " 2"
report_refused : rewritten (closed (row wide (6 ∷ 2 ^ 63 ∷ 0 ∷ 0 ∷ []))) ≡ 32 ∷ 50 ∷ 10 ∷ []
unfolding rewritten_from lines_from last_line joined refusal_text row column line_of said checked refusal_of fields_of fields_in four column_of leading_spaces digits_of is_digit more
    after_zero in_table call_of unless_refused check_rate of_bits to_bits lt sign_bit
report_refused = refl

-- an empty line between two others: " 1"
empty_line : rewritten (closed read ++ (10 ∷ read)) ≡ closed read ++ (32 ∷ 49 ∷ 10 ∷ closed read)
unfolding rewritten_from lines_from last_line joined refusal_text line_text values_of row column line_of said checked refusal_of fields_of fields_in four column_of leading_spaces
    digits_of is_digit more after_zero in_table call_of
empty_line = refl

-- a line that is one byte too long, and one of one byte that lacks its newline
other_widths : rewritten (read ++ (32 ∷ 10 ∷ 7 ∷ [])) ≡ 32 ∷ 49 ∷ 10 ∷ 32 ∷ 49 ∷ 10 ∷ []
unfolding rewritten_from lines_from last_line joined refusal_text row column line_of said checked refusal_of fields_of
other_widths = refl

empty_input : rewritten [] ≡ []
unfolding rewritten_from lines_from last_line joined
empty_input = refl

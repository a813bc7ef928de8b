-- Worked examples of the definitions in specs/, which antt computes. They test the definitions; no proof cites them.
use Rattle.std.specs.Prelude.{Some, None, Ok, Err, ℕ, ◌+◌, ◌-◌, ◌*◌, ◌^◌, ◌≡◌, refl, List, [], ◌∷◌, ◌++◌, map, replicate}
use Rattle.std.specs.Float.Ieee.{of_bits, to_bits, lt}
use Rattle.float.specs.Rust.{sign_bit}
use Rattle.refusal.specs.Outcome.{number}
use Rattle.refusal.specs.declared.Refusal.TheVariants.{NotInShape, Rate, Time, Flag, PacketSize}
use Rattle.packets.specs.Summary.{check_time, check_packet}
use Rattle.loss_controller.specs.Setters.{check_rate}
use Rattle.call_line.specs.declared.Call.TheVariants.{Estimate, Acknowledged, AlrOn, AlrOff, CapacityIs, CapacityNone, Packet, Report, Read, StartBytes, StartPackets}
use Rattle.call_line.specs.declared.LineRefusal.TheVariants.{Report as LineRefusal-as-Report, Other}
use Rattle.call_line.specs.Column.{is_digit, more, after_zero, digits_of, leading_spaces, column_of, column, row}
use Rattle.call_line.specs.Digits.{last_digits}
use Rattle.call_line.specs.Write.{line_text, reread, write_outcome, written}
use Rattle.call_line.specs.Line.{wide, narrow, four, fields_in, fields_of, in_table, unless_refused, by_flag, alr_of, capacity_of, packet_of, start_of}
use Rattle.call_line.specs.Line.{call_of, values_of, checked, refused, said, line_of}

-- ---- columns

-- " 0", "10", " 7", "00", "07", "7 ", "  ", "x1", "-1", "1" in one place, and no place
columns :
    map column_of
    ((32 ∷ 48 ∷ [])
    ∷ (49 ∷ 48 ∷ [])
    ∷ (32 ∷ 55 ∷ [])
    ∷ (48 ∷ 48 ∷ [])
    ∷ (48 ∷ 55 ∷ [])
    ∷ (55 ∷ 32 ∷ [])
    ∷ (32 ∷ 32 ∷ [])
    ∷ (120 ∷ 49 ∷ [])
    ∷ (45 ∷ 49 ∷ [])
    ∷ (49 ∷ [])
    ∷ []
    ∷ []) ≡
    Some 0 ∷ Some 10 ∷ Some 7 ∷ None ∷ None ∷ None ∷ None ∷ None ∷ None ∷ Some 1 ∷ None ∷ []
unfolding column_of leading_spaces digits_of is_digit more after_zero
columns = refl

-- the largest number, 18446744073709551615, and the next, 18446744073709551616
abbrev largest_end : List ℕ
largest_end = 56 ∷ 52 ∷ 52 ∷ 54 ∷ 55 ∷ 52 ∷ 52 ∷ 48 ∷ 55 ∷ 51 ∷ 55 ∷ 48 ∷ 57 ∷ 53 ∷ 53 ∷ 49 ∷ 54 ∷ 49 ∷ 53 ∷ []

largest : column_of (49 ∷ largest_end) ≡ Some (2 ^ 64 - 1)
unfolding column_of leading_spaces digits_of is_digit more after_zero
largest = refl

too_large :
    column_of (49 ∷ 56 ∷ 52 ∷ 52 ∷ 54 ∷ 55 ∷ 52 ∷ 52 ∷ 48 ∷ 55 ∷ 51 ∷ 55 ∷ 48 ∷ 57 ∷ 53 ∷ 53 ∷ 49 ∷ 54 ∷ 49 ∷ 54 ∷ []) ≡ None
unfolding column_of leading_spaces digits_of is_digit more after_zero
too_large = refl

-- 0, 7, 10 and 100 in two places: of the last, what has room
in_two_places :
    map (column 2) (0 ∷ 7 ∷ 10 ∷ 100 ∷ []) ≡ (32 ∷ 48 ∷ []) ∷ (32 ∷ 55 ∷ []) ∷ (49 ∷ 48 ∷ []) ∷ (48 ∷ 48 ∷ []) ∷ []
unfolding column
in_two_places = refl

-- 105 in two places, 0 in none and in three, and the largest number in 19 places, in 20 and in 22
placed :
    column 2 105 ∷ column 0 0 ∷ column 3 0 ∷ map (λ w. column w (2 ^ 64 - 1)) (19 ∷ 20 ∷ 22 ∷ []) ≡
    (48 ∷ 53 ∷ []) ∷ [] ∷ (32 ∷ 32 ∷ 48 ∷ []) ∷ largest_end ∷ (49 ∷ largest_end) ∷ (32 ∷ 32 ∷ 49 ∷ largest_end) ∷ []
unfolding column
placed = refl

-- the last two digits of 105, and five of it: "05" and "00105"
last_digits_lem : map (λ w. last_digits w 105) (2 ∷ 5 ∷ []) ≡ (48 ∷ 53 ∷ []) ∷ (48 ∷ 48 ∷ 49 ∷ 48 ∷ 53 ∷ []) ∷ []
unfolding last_digits
last_digits_lem = refl

-- ---- lines

-- the line with these fields, and the narrow one
line : ℕ → ℕ → ℕ → ℕ → List ℕ
line kind a b c = row wide (kind ∷ a ∷ b ∷ c ∷ [])

narrow_line : ℕ → ℕ → ℕ → ℕ → List ℕ
narrow_line kind a b c = row narrow (kind ∷ a ∷ b ∷ c ∷ [])

-- document 01's whole example, byte by byte: an estimate of 1,000,000 bit/s, and a read
example_estimate :
    line_of
    ((32 ∷ 49 ∷ [])
    ++ ((32 ∷ 52 ∷ 54 ∷ 57 ∷ 54 ∷ 56 ∷ 51 ∷ 55 ∷ 49 ∷ 52 ∷ 54 ∷ 54 ∷ 56 ∷ 52 ∷ 54 ∷ 56 ∷ 54 ∷ 51 ∷ 51 ∷ 54 ∷ [])
    ++ ((replicate 19 32 ++ (48 ∷ [])) ++ (replicate 7 32 ++ (48 ∷ []))))) ≡
    Ok (Estimate 4696837146684686336)
unfolding line_of said checked refused fields_of fields_in four column_of leading_spaces digits_of is_digit more after_zero in_table call_of unless_refused check_rate of_bits to_bits lt sign_bit
example_estimate = refl

example_read :
    line_of
    ((32 ∷ 55 ∷ [])
    ++ ((replicate 19 32 ++ (48 ∷ [])) ++ ((replicate 19 32 ++ (48 ∷ [])) ++ (replicate 7 32 ++ (48 ∷ []))))) ≡
    Ok Read
unfolding line_of said checked refused fields_of fields_in four column_of leading_spaces digits_of is_digit more after_zero in_table call_of
example_read = refl

-- the read in 48 columns
example_narrow :
    line_of
    ((32 ∷ 55 ∷ [])
    ++ ((replicate 19 32 ++ (48 ∷ [])) ++ ((replicate 19 32 ++ (48 ∷ [])) ++ (replicate 5 32 ++ (48 ∷ []))))) ≡
    Ok Read
unfolding line_of said checked refused fields_of fields_in four column_of leading_spaces digits_of is_digit more after_zero in_table call_of
example_narrow = refl

-- an empty line, one with a CR behind it, one whose kind is "01", one whose C is blank, and one that ends with B; a narrow one with a CR, and with one and
-- with two spaces behind it; a narrow one without its last byte, and a wide one with a space behind it
out_of_shape :
    map line_of
    ([]
    ∷ (line 7 0 0 0 ++ (13 ∷ []))
    ∷ ((48 ∷ 49 ∷ []) ++ ((replicate 19 32 ++ (48 ∷ [])) ++ ((replicate 19 32 ++ (48 ∷ [])) ++ (replicate 7 32 ++ (48 ∷ [])))))
    ∷ ((32 ∷ 55 ∷ []) ++ ((replicate 19 32 ++ (48 ∷ [])) ++ ((replicate 19 32 ++ (48 ∷ [])) ++ replicate 8 32)))
    ∷ ((32 ∷ 55 ∷ []) ++ ((replicate 19 32 ++ (48 ∷ [])) ++ (replicate 19 32 ++ (48 ∷ []))))
    ∷ (narrow_line 7 0 0 0 ++ (13 ∷ []))
    ∷ (narrow_line 7 0 0 0 ++ (32 ∷ []))
    ∷ (narrow_line 7 0 0 0 ++ (32 ∷ 32 ∷ []))
    ∷ ((32 ∷ 55 ∷ []) ++ ((replicate 19 32 ++ (48 ∷ [])) ++ ((replicate 19 32 ++ (48 ∷ [])) ++ replicate 5 32)))
    ∷ (line 7 0 0 0 ++ (32 ∷ []))
    ∷ []) ≡
    replicate 10 (Err (Other NotInShape))
unfolding line narrow_line row column line_of said checked refused fields_of fields_in four column_of leading_spaces digits_of is_digit more after_zero in_table call_of unless_refused
    check_rate of_bits to_bits lt sign_bit
out_of_shape = refl

-- kinds 0 and 9; a B or a C where the table says 0, also a C above 9,999,999; a read with an A
out_of_table :
    map line_of (line 0 0 0 0 ∷ line 9 0 0 0 ∷ line 1 0 1 0 ∷ line 2 0 0 1 ∷ line 6 0 0 1 ∷ line 6 0 0 10000000 ∷ line 7 1 0 0 ∷ []) ≡
    replicate 7 (Err (Other NotInShape))
unfolding line row column line_of said checked refused fields_of fields_in four column_of leading_spaces digits_of is_digit more after_zero in_table call_of
out_of_table = refl

-- DECISIONS 1, 4 and 18. ALR: on at 0 ns, at 4 × 10^18 ns and a ns later; off, and off with a start; the flag 2, also with a start that is too late;
-- the flag 2 and a C
alr :
    map line_of
    (line 3 0 1 0
    ∷ line 3 (4 * 10 ^ 18) 1 0
    ∷ line 3 (4 * 10 ^ 18 + 1) 1 0
    ∷ line 3 0 0 0
    ∷ line 3 1 0 0
    ∷ line 3 1 2 0
    ∷ line 3 (4 * 10 ^ 18 + 1) 2 0
    ∷ line 3 1 2 1
    ∷ []) ≡
    Ok (AlrOn 0) ∷ Ok (AlrOn (4 * 10 ^ 18)) ∷ Err (Other Time) ∷ Ok AlrOff ∷ Err (Other NotInShape) ∷ Err (Other Flag) ∷ Err (Other Flag) ∷ Err (Other NotInShape) ∷ []
unfolding line row column line_of said checked refused fields_of fields_in four column_of leading_spaces digits_of is_digit more after_zero in_table call_of unless_refused by_flag
    alr_of check_time
alr = refl

-- the same of the capacity: +0.0, 10^15 and the next float, infinity; none, and none with a rate; the flag 2 and -0.0; the flag 2 and a C
capacity :
    map line_of
    (line 4 0 1 0
    ∷ line 4 0x430C6BF526340000 1 0
    ∷ line 4 0x430C6BF526340001 1 0
    ∷ line 4 0x7FF0000000000000 1 0
    ∷ line 4 0 0 0
    ∷ line 4 1 0 0
    ∷ line 4 (2 ^ 63) 2 0
    ∷ line 4 0 2 1
    ∷ []) ≡
    Ok (CapacityIs 0) ∷ Ok (CapacityIs 0x430C6BF526340000) ∷ Err (Other Rate) ∷ Ok (CapacityIs 0x7FF0000000000000) ∷ Ok CapacityNone ∷ Err (Other NotInShape)
    ∷ Err (Other Flag) ∷ Err (Other NotInShape) ∷ []
unfolding line row column line_of said checked refused fields_of fields_in four column_of leading_spaces digits_of is_digit more after_zero in_table call_of unless_refused by_flag
    capacity_of check_rate of_bits to_bits lt sign_bit
capacity = refl

-- packets: the largest; too late, also too large and with the flag 2; a byte too large, and as large as C can say, also with the flag 2; the flag 2, and the
-- largest flag
packets :
    map line_of
    (line 5 (4 * 10 ^ 18) 1 9999999
    ∷ line 5 (4 * 10 ^ 18 + 1) 0 0
    ∷ line 5 (4 * 10 ^ 18 + 1) 2 10000000
    ∷ line 5 0 0 10000000
    ∷ line 5 0 2 99999999
    ∷ line 5 0 2 9999999
    ∷ line 5 0 (2 ^ 64 - 1) 0
    ∷ []) ≡
    Ok (Packet (4 * 10 ^ 18) 1 9999999) ∷ Err (Other Time) ∷ Err (Other Time) ∷ Err (Other PacketSize) ∷ Err (Other PacketSize) ∷ Err (Other Flag) ∷ Err (Other Flag) ∷ []
unfolding line row column line_of said checked refused fields_of fields_in four column_of leading_spaces digits_of is_digit more after_zero in_table call_of unless_refused
    packet_of check_packet
packets = refl

-- in 48 columns: 65,536 bytes, which were too large once, and as many as C has room for; too late, and the flag 2
narrow_packets :
    map line_of
    (narrow_line 5 7 0 65536 ∷ narrow_line 5 7 1 999999 ∷ narrow_line 5 (4 * 10 ^ 18 + 1) 2 999999 ∷ narrow_line 5 0 2 999999 ∷ []) ≡
    Ok (Packet 7 0 65536) ∷ Ok (Packet 7 1 999999) ∷ Err (Other Time) ∷ Err (Other Flag) ∷ []
unfolding narrow_line row column line_of said checked refused fields_of fields_in four column_of leading_spaces digits_of is_digit more after_zero in_table call_of unless_refused
    packet_of check_packet
narrow_packets = refl

-- rates: -0.0 is refused, a NaN is taken; a report that is refused with 2 empties the queue, and one with 1 does not
rates :
    map line_of (line 1 (2 ^ 63) 0 0 ∷ line 2 0xFFF8000000000001 0 0 ∷ line 6 0x7FF0000000000000 0 0 ∷ line 6 (2 ^ 63) 0 0 ∷ line 6 (2 ^ 63) 1 0 ∷ []) ≡
    Err (Other Rate) ∷ Ok (Acknowledged 0xFFF8000000000001) ∷ Ok (Report 0x7FF0000000000000) ∷ Err (LineRefusal-as-Report Rate) ∷ Err (Other NotInShape) ∷ []
unfolding line row column line_of said checked refused fields_of fields_in four column_of leading_spaces digits_of is_digit more after_zero in_table call_of unless_refused
    check_rate of_bits to_bits lt sign_bit
rates = refl

-- kind 8 (Q-7): the flags 0 and 1, 2 and the largest; an A or a C, and an A or a C with the flag 2: 1 comes before 8
starts :
    map line_of
    (line 8 0 0 0
    ∷ line 8 0 1 0
    ∷ line 8 0 2 0
    ∷ line 8 0 (2 ^ 64 - 1) 0
    ∷ line 8 1 0 0
    ∷ line 8 0 1 1
    ∷ line 8 1 2 0
    ∷ line 8 0 2 1
    ∷ []) ≡
    Ok StartBytes ∷ Ok StartPackets ∷ Err (Other Flag) ∷ Err (Other Flag) ∷ replicate 4 (Err (Other NotInShape))
unfolding line row column line_of said checked refused fields_of fields_in four column_of leading_spaces digits_of is_digit more after_zero in_table call_of by_flag start_of
starts = refl

narrow_starts :
    map line_of (narrow_line 8 0 0 0 ∷ narrow_line 8 0 1 0 ∷ narrow_line 8 0 2 0 ∷ narrow_line 8 1 2 0 ∷ narrow_line 8 0 2 1 ∷ []) ≡
    Ok StartBytes ∷ Ok StartPackets ∷ Err (Other Flag) ∷ Err (Other NotInShape) ∷ Err (Other NotInShape) ∷ []
unfolding narrow_line row column line_of said checked refused fields_of fields_in four column_of leading_spaces digits_of is_digit more after_zero in_table call_of by_flag
    start_of
narrow_starts = refl

-- ---- calls written

-- document 01's whole example, byte by byte: an estimate of 1,000,000 bit/s, and a read
texts :
    map line_text (Estimate 4696837146684686336 ∷ Read ∷ []) ≡
    ((32 ∷ 49 ∷ [])
    ++ ((32 ∷ 52 ∷ 54 ∷ 57 ∷ 54 ∷ 56 ∷ 51 ∷ 55 ∷ 49 ∷ 52 ∷ 54 ∷ 54 ∷ 56 ∷ 52 ∷ 54 ∷ 56 ∷ 54 ∷ 51 ∷ 51 ∷ 54 ∷ [])
    ++ ((replicate 19 32 ++ (48 ∷ [])) ++ (replicate 7 32 ++ (48 ∷ 10 ∷ [])))))
    ∷ ((32 ∷ 55 ∷ [])
    ++ ((replicate 19 32 ++ (48 ∷ [])) ++ ((replicate 19 32 ++ (48 ∷ [])) ++ (replicate 7 32 ++ (48 ∷ 10 ∷ [])))))
    ∷ []
unfolding line_text values_of row column
texts = refl

-- every kind of call, those with a flag on and off: its fields
fields :
    map line_text
    (Acknowledged 7 ∷ AlrOn 7 ∷ AlrOff ∷ CapacityIs 7 ∷ CapacityNone ∷ Packet 7 1 1200 ∷ Report 7 ∷ StartBytes ∷ StartPackets ∷ []) ≡
    map (λ l. l ++ (10 ∷ []))
    (line 2 7 0 0 ∷ line 3 7 1 0 ∷ line 3 0 0 0 ∷ line 4 7 1 0 ∷ line 4 0 0 0 ∷ line 5 7 1 1200 ∷ line 6 7 0 0 ∷ line 8 0 0 0 ∷ line 8 0 1 0 ∷ [])
unfolding line_text values_of line
fields = refl

-- the reader's number, also with no room: -0.0, a capacity and a report above 10^15, ALR and a packet too late, the latter also too large and with the flag
-- 2, a packet too large, also with the flag 2, the flag 2; 13 with one byte too few, and nothing to refuse with one more: a NaN, off, none, a start
refusals :
    map (λ call. map (λ room. number (write_outcome call room)) (0 ∷ 50 ∷ 51 ∷ []))
    (Estimate (2 ^ 63)
    ∷ CapacityIs 0x430C6BF526340001
    ∷ Report 0x430C6BF526340001
    ∷ AlrOn (4 * 10 ^ 18 + 1)
    ∷ Packet (4 * 10 ^ 18 + 1) 0 0
    ∷ Packet (4 * 10 ^ 18 + 1) 2 10000000
    ∷ Packet 0 0 10000000
    ∷ Packet 0 2 (2 ^ 32 - 1)
    ∷ Packet 0 2 9999999
    ∷ Acknowledged 0xFFF8000000000001
    ∷ AlrOff
    ∷ CapacityNone
    ∷ StartPackets
    ∷ []) ≡
    replicate 3 2 ∷ replicate 3 2 ∷ replicate 3 2 ∷ replicate 3 3 ∷ replicate 3 3 ∷ replicate 3 3 ∷ replicate 3 17 ∷ replicate 3 17 ∷ replicate 3 8
    ∷ (13 ∷ 13 ∷ 0 ∷ [])
    ∷ (13 ∷ 13 ∷ 0 ∷ []) ∷ (13 ∷ 13 ∷ 0 ∷ []) ∷ (13 ∷ 13 ∷ 0 ∷ []) ∷ []
unfolding write_outcome reread values_of checked in_table call_of unless_refused by_flag alr_of capacity_of packet_of start_of
    check_rate check_time check_packet of_bits to_bits lt sign_bit
refusals = refl

-- the whole buffer: bytes behind the newline stay, and all of it where there is no room or the call is turned down
buffers :
    written Read (replicate 53 46) ∷ written Read (replicate 50 46) ∷ written (Estimate (2 ^ 63)) (replicate 53 46) ∷ [] ≡
    (line 7 0 0 0 ++ (10 ∷ 46 ∷ 46 ∷ [])) ∷ replicate 50 46 ∷ replicate 53 46 ∷ []
unfolding written write_outcome reread line_text values_of line row column checked in_table call_of unless_refused check_rate of_bits to_bits lt sign_bit
buffers = refl

-- Worked examples of the definitions beside this file, which antt computes. They test the definitions; no proof cites them.
use Prim.Native.String.{String}
use Rattle.std.specs.Prelude.{◌≡◌, Option, Some, None, Result, Ok, Err, [], ◌∷◌, ◌++◌, map, replicate, refl}
use lib.Ieee.{of_int, to_bits}
use Rattle.call_line.specs.Column.{is_digit, more, after_zero, digits_of}
use Rattle.call_line.specs.declared.Call.{Call}
use Rattle.call_line.specs.declared.Call.TheVariants.{Estimate, Acknowledged, AlrOn, AlrOff, CapacityIs, CapacityNone, Packet, Report, Read, StartBytes, StartPackets}
use Rattle.call_words.specs.declared.Why.{Why}
use Rattle.call_words.specs.declared.Why.TheVariants.{UnknownCall, WordCount, Rate, Time, Size, Outcome, Measure}
use Rattle.call_words.specs.Words.{ascii, up_to, on_from, is_blank, words_from, words_in, at_most, bits_of, rate_of, size_of, is_point}
use Rattle.call_words.specs.Words.{times, places_of, fraction_of, plus, nanos_of, time_of, given, alr_of, capacity_of, start_of, with_value}
use Rattle.call_words.specs.Words.{with_outcome, packet_of, outcomes, measures, names, look_up, call_of, is_comment, said, words_of}

abbrev line : String → Result (Option Call) Why
line text = words_of (ascii text)

-- ---- words

-- no byte, blanks alone; words with a space, a tab or a CR between them, before them or after them; a newline is no blank
words :
    map words_in
    ([]
    ∷ (32 ∷ 9 ∷ 13 ∷ [])
    ∷ ascii "a bc"
    ∷ (9 ∷ 32 ∷ 97 ∷ 9 ∷ 13 ∷ 98 ∷ 99 ∷ 13 ∷ [])
    ∷ (97 ∷ 10 ∷ 98 ∷ [])
    ∷ []) ≡
    [] ∷ [] ∷ (ascii "a" ∷ ascii "bc" ∷ []) ∷ (ascii "a" ∷ ascii "bc" ∷ []) ∷ ((97 ∷ 10 ∷ 98 ∷ []) ∷ []) ∷ []
unfolding words_from is_blank up_to
words = refl

-- lines that say nothing: an empty one, one of blanks, comments; and a sign of a comment that is not at the first word
nothing : map line ("" ∷ "   " ∷ "#" ∷ "# estimate 1" ∷ "  #read" ∷ "read #" ∷ []) ≡ replicate 5 (Ok None) ++ (Err WordCount ∷ [])
unfolding words_of said is_comment words_from is_blank up_to names look_up call_of
nothing = refl

-- a tab between words and a CR at the end
blanks : words_of (ascii "alr" ++ (9 ∷ (ascii "off" ++ (13 ∷ [])))) ≡ Ok (Some AlrOff)
unfolding words_of said is_comment words_from is_blank up_to names look_up call_of with_value alr_of
blanks = refl

-- ---- names and numbers of words

unknown : map line ("estimates 1" ∷ "Estimate 1" ∷ "estimat" ∷ "inf" ∷ "lost" ∷ []) ≡ replicate 5 (Err UnknownCall)
unfolding words_of said is_comment words_from is_blank up_to names look_up call_of
unknown = refl

-- the number of words is told before what is wrong with one of them, and an unknown name before the number
counts :
    map line
    ("estimate"
    ∷ "estimate 1 x"
    ∷ "acknowledged"
    ∷ "alr"
    ∷ "alr off now"
    ∷ "capacity 1 2"
    ∷ "packet 0.1 1200"
    ∷ "packet x y z lost"
    ∷ "report"
    ∷ "read now"
    ∷ "start"
    ∷ "start bytes now"
    ∷ "hello x y z"
    ∷ []) ≡
    replicate 12 (Err WordCount) ++ (Err UnknownCall ∷ [])
unfolding words_of said is_comment words_from is_blank up_to names look_up call_of
counts = refl

-- ---- rates

-- 0, 1, 2500000, 10^15 and infinity; 10^15 + 1, a leading zero, a sign, a fraction, an exponent, a number above 2^64, another infinity
rates :
    map line
    ("estimate 0"
    ∷ "acknowledged 1"
    ∷ "report 2500000"
    ∷ "estimate 1000000000000000"
    ∷ "capacity inf"
    ∷ "estimate 1000000000000001"
    ∷ "estimate 007"
    ∷ "estimate +1"
    ∷ "acknowledged 2.5"
    ∷ "report 1e6"
    ∷ "report 18446744073709551616"
    ∷ "capacity infinity"
    ∷ []) ≡
    Ok (Some (Estimate 0)) ∷ Ok (Some (Acknowledged 0x3FF0000000000000)) ∷ Ok (Some (Report 0x414312D000000000)) ∷ Ok (Some (Estimate 0x430C6BF526340000))
    ∷ Ok (Some (CapacityIs 0x7FF0000000000000)) ∷ replicate 7 (Err Rate)
unfolding words_of said is_comment words_from is_blank up_to names look_up call_of with_value given capacity_of rate_of bits_of at_most digits_of is_digit
    more after_zero of_int to_bits
rates = refl

-- none is a capacity alone
none : map line ("capacity none" ∷ "estimate none" ∷ []) ≡ Ok (Some CapacityNone) ∷ Err Rate ∷ []
unfolding words_of said is_comment words_from is_blank up_to names look_up call_of with_value given capacity_of rate_of bits_of at_most digits_of is_digit
    more after_zero
none = refl

-- ---- times

-- whole and with one to nine places; the latest time, and a ns before it
times_right :
    map line
    ("alr 0"
    ∷ "alr 1.5"
    ∷ "alr 0.000000001"
    ∷ "alr 12.050"
    ∷ "alr 3999999999.999999999"
    ∷ "alr 4000000000"
    ∷ []) ≡
    map (λ n. Ok (Some (AlrOn n)))
    (0 ∷ 1500000000 ∷ 1 ∷ 12050000000 ∷ 3999999999999999999 ∷ 4000000000000000000 ∷ [])
unfolding words_of said is_comment words_from is_blank up_to names look_up call_of with_value given alr_of time_of nanos_of is_point on_from plus times at_most
    fraction_of places_of digits_of is_digit more after_zero
times_right = refl

-- ten places, none before the point, none after it, two points, a leading zero, a ns too late, a second too late, a sign, a letter, infinity
times_wrong :
    map line
    ("alr 0.1234567890"
    ∷ "alr .5"
    ∷ "alr 5."
    ∷ "alr ."
    ∷ "alr 1.2.3"
    ∷ "alr 01.5"
    ∷ "alr 4000000000.000000001"
    ∷ "alr 4000000001"
    ∷ "alr -1"
    ∷ "alr 1.5s"
    ∷ "alr inf"
    ∷ []) ≡
    replicate 11 (Err Time)
unfolding words_of said is_comment words_from is_blank up_to names look_up call_of with_value given alr_of time_of nanos_of is_point on_from plus times at_most
    fraction_of places_of digits_of is_digit more after_zero
times_wrong = refl

-- ---- packets

packets :
    map line
    ("packet 0.120 1200 lost"
    ∷ "packet 0.120 1200 arrived"
    ∷ "packet 0 0 lost"
    ∷ "packet 0 9999999 arrived"
    ∷ "packet 0 10000000 arrived"
    ∷ "packet 0 01 arrived"
    ∷ "packet 0 1200 Lost"
    ∷ "packet 0 -1 gone"
    ∷ "packet x -1 gone"
    ∷ "packet 4000000000.5 -1 gone"
    ∷ []) ≡
    Ok (Some (Packet 120000000 1 1200)) ∷ Ok (Some (Packet 120000000 0 1200)) ∷ Ok (Some (Packet 0 1 0)) ∷ Ok (Some (Packet 0 0 9999999)) ∷ Err Size ∷ Err Size
    ∷ Err Outcome ∷ Err Size ∷ Err Time ∷ Err Time ∷ []
unfolding words_of said is_comment words_from is_blank up_to names look_up call_of packet_of with_outcome outcomes size_of time_of nanos_of is_point on_from plus
    times at_most fraction_of places_of digits_of is_digit more after_zero
packets = refl

reading : line "read" ≡ Ok (Some Read)
unfolding words_of said is_comment words_from is_blank up_to names look_up call_of
reading = refl

-- ---- starts

starts :
    map line ("start bytes" ∷ "start packets" ∷ "start Bytes" ∷ "start packet" ∷ "start 1" ∷ "starts bytes" ∷ []) ≡
    Ok (Some StartBytes) ∷ Ok (Some StartPackets) ∷ Err Measure ∷ Err Measure ∷ Err Measure ∷ Err UnknownCall ∷ []
unfolding words_of said is_comment words_from is_blank up_to names look_up call_of with_value start_of measures
starts = refl

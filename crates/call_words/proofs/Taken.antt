-- What words say, the reader of call lists does not turn down. Assumes nothing.
use Rattle.std.proofs.Common.{◌≡◌, ℕ, zero, suc, ◌*◌, ◌^◌, ◌<◌, ◌≤◌, true, false, List, [], ◌∷◌, get_or, pos, refl, subst, true≢false, mul-le-mul_right, arith, lit<, lit≤, le-ltb, le-leb}
use lib.Ieee.{Float, nan, inf, fin, binary64, up, down, lt, of_int, of_bits, to_bits}
use lib.Ieee.Bits.{to_bits-lt}
use lib.Ieee.Exact.{HasValue}
use lib.Ieee.Fits.{of_int-fits}
use Rattle.float.specs.Rust.{sign_bit}
use Rattle.float.proofs.Refusal.{either}
use Rattle.bandwidth.specs.Rate.{rate}
use Rattle.packets.specs.Summary.{largest_packet, latest_time, check_time, check_packet}
use Rattle.loss_controller.specs.Setters.{check_rate}
use Rattle.std.specs.Prelude.{ok_or, IfSome, IfOk}
use Rattle.refusal.specs.Outcome.{and_then}
use Rattle.call_line.specs.Column.{digits_of}
use Rattle.call_line.specs.Line.{check_bits, values_of}
use Rattle.call_line.specs.Write.{check}
use Rattle.std.proofs.Common.{Option, Some, None, Result, Ok, Err}
use Rattle.call_line.specs.declared.Call.{Call}
use Rattle.call_line.specs.declared.Call.TheVariants.{Estimate, Acknowledged, AlrOn, AlrOff, CapacityIs, CapacityNone, Packet, Report, Read, StartBytes, StartPackets}
use Rattle.call_line.proofs.Written.{call_says}
use Rattle.call_words.specs.declared.Why.{Why}
use Rattle.call_words.specs.declared.Why.TheVariants.{UnknownCall, Rate, Time, Size, Outcome, Measure}
use Rattle.call_words.specs.declared.Valued.{Valued}
use Rattle.call_words.specs.declared.Valued.TheVariants.{Estimate as Valued-as-Estimate, Acknowledged as Valued-as-Acknowledged}
use Rattle.call_words.specs.declared.Valued.TheVariants.{Alr as Valued-as-Alr, Capacity as Valued-as-Capacity, Report as Valued-as-Report, Start as Valued-as-Start}
use Rattle.call_words.specs.declared.Name.{Name}
use Rattle.call_words.specs.declared.Name.TheVariants.{WithValue, Packet as Name-as-Packet, Read as Name-as-Read}
use Rattle.call_words.specs.Words.{ascii, same, look_up, measures, outcomes, at_most, bits_of, rate_of, size_of, nanos_of, time_of, given, alr_of, capacity_of, start_of, with_value}
use Rattle.call_words.specs.Words.{with_outcome, packet_of, name_of, call_of, is_comment, said, words_in, words_of}
use Rattle.call_words.specs.Laws.{WordsTaken, WordsRead}
use Rattle.call_words.proofs.Numbers.{at_most_lem}
use Rattle.call_words.proofs.Exact.{small_exact}

-- what holds of the call that words say, if they say one
abbrev IfCalled : (Call → Type 0) → Result (Option Call) Why → Type 0
IfCalled P r = IfOk r (λ said. IfSome said P)

-- ---- numbers

small : (most : ℕ) (a : Option ℕ) → IfSome (at_most most a) (λ n. n ≤ most)
small most a = if_some (at_most most a) (λ n. at_most_lem most n a)
  where
    if_some : {P : ℕ → Type 0} (o : Option ℕ) → ((n : ℕ) → o ≡ Some n → P n) → IfSome o P
    if_some (Some n) h = h n refl
    if_some None h = tt

small_time : (word : List ℕ) → IfSome (time_of word) (λ n. n ≤ latest_time)
unfolding time_of
small_time word = small latest_time (nanos_of word)

small_size : (word : List ℕ) → IfSome (size_of word) (λ n. n ≤ largest_packet)
unfolding size_of
small_size word = small largest_packet (digits_of word)

-- ---- rates

-- 64 bits of a rate that is not turned down
abbrev Rated : ℕ → Type 0
Rated bits = (check_bits bits ≡ Ok tt) × (bits < 2 ^ 64)

-- a whole number up to 10^15
value_rated : (x : Float) (n : ℕ) → n ≤ 10 ^ 15 → HasValue x false n 1 → check_rate (rate x) ≡ Ok tt
unfolding check_rate sign_bit lt of_bits
value_rated nan n h v = absurd v
value_rated (inf s) n h v = absurd v
value_rated (fin true m e) n h v = absurd (true≢false v.0)
value_rated (fin false m e) n h v =
    let l : n * down e ≤ 10 ^ 15 * down e = mul-le-mul_right (down e) h in
    simp (le-ltb (10 ^ 15 * down e) (m * up e * 1) (omega (arith, v.1)))

bits_rated : (a : Option ℕ) → IfSome a (λ n. n ≤ 10 ^ 15) → IfSome (bits_of a) Rated
unfolding bits_of
bits_rated (Some n) h = (value_rated _ n h (small_exact n h), to_bits-lt binary64 (of_int binary64 (pos n)) (of_int-fits binary64 (pos n)))
bits_rated None h = tt

inf_rated : Rated (to_bits binary64 (inf false))
unfolding check_rate to_bits of_bits
inf_rated = (refl, lit< tt)

rate_rated : (word : List ℕ) → IfSome (rate_of word) Rated
unfolding rate_of
rate_rated word = either (λ a. IfSome a Rated) (same word (ascii "inf")) _ _ inf_rated (bits_rated _ (small (10 ^ 15) (digits_of word)))

-- ---- what words say

-- call by call, what words make sure of
abbrev Fits : Call → Type 0
Fits (Estimate rate) = Rated rate
Fits (Acknowledged rate) = Rated rate
Fits (AlrOn start) = start ≤ latest_time
Fits AlrOff = Unit {0}
Fits (CapacityIs rate) = Rated rate
Fits CapacityNone = Unit {0}
Fits (Packet time lost size) = (time ≤ latest_time) × ((lost ≤ 1) × (size ≤ largest_packet))
Fits (Report rate) = Rated rate
Fits Read = Unit {0}
Fits StartBytes = Unit {0}
Fits StartPackets = Unit {0}

abbrev Fitting : Result Call Why → Type 0
Fitting r = IfOk r Fits

given_fits : (call : ℕ → Call) (why : Why) (a : Option ℕ) → IfSome a (λ n. Fits (call n)) → IfOk (given call why a) Fits
unfolding given
given_fits call why (Some n) h = h
given_fits call why None h = tt

value_fits : (name : Valued) (word : List ℕ) → IfOk (with_value name word) Fits
unfolding with_value alr_of capacity_of start_of measures look_up
value_fits Valued-as-Estimate word = given_fits Estimate Rate (rate_of word) (rate_rated word)
value_fits Valued-as-Acknowledged word = given_fits Acknowledged Rate (rate_of word) (rate_rated word)
value_fits Valued-as-Alr word =
    either Fitting (same word (ascii "off")) _ _ tt (given_fits AlrOn Time (time_of word) (small_time word))
value_fits Valued-as-Capacity word =
    either Fitting (same word (ascii "none")) _ _ tt (given_fits CapacityIs Rate (rate_of word) (rate_rated word))
value_fits Valued-as-Report word = given_fits Report Rate (rate_of word) (rate_rated word)
value_fits Valued-as-Start word =
    either (λ o. Fitting (ok_or o Measure)) (same (ascii "bytes") word) _ _ tt
    (either (λ o. Fitting (ok_or o Measure)) (same (ascii "packets") word) _ _ tt tt)

packet_fits :
    (time size : Option ℕ) (outcome : List ℕ) → IfSome time (λ n. n ≤ latest_time) → IfSome size (λ n. n ≤ largest_packet)
    → IfOk (and_then (ok_or time Time) (λ t. and_then (ok_or size Size) (λ n. with_outcome t n outcome))) Fits
unfolding with_outcome outcomes look_up
packet_fits (Some time) (Some size) outcome t s =
    let P : Option ℕ → Type 0 = λ (o : Option ℕ). Fitting (and_then (ok_or o Outcome) (λ lost. Ok (Packet time lost size))) in
    either P (same (ascii "lost") outcome) _ _ (t, (lit≤ tt, s)) (either P (same (ascii "arrived") outcome) _ _ (t, (lit≤ tt, s)) tt)
packet_fits (Some time) None outcome t s = tt
packet_fits None size outcome t s = tt

call_fits : (name : Name) (words : List (List ℕ)) → IfOk (call_of name words) Fits
unfolding call_of packet_of
call_fits (WithValue name) (value ∷ []) = value_fits name value
call_fits (WithValue name) [] = tt
call_fits (WithValue name) (a ∷ b ∷ more) = tt
call_fits Name-as-Packet (time ∷ size ∷ outcome ∷ []) =
    packet_fits (time_of time) (size_of size) outcome (small_time time) (small_size size)
call_fits Name-as-Packet [] = tt
call_fits Name-as-Packet (a ∷ []) = tt
call_fits Name-as-Packet (a ∷ b ∷ []) = tt
call_fits Name-as-Packet (a ∷ b ∷ c ∷ d ∷ more) = tt
call_fits Name-as-Read [] = tt
call_fits Name-as-Read (a ∷ more) = tt

then_fits : (r : Result Call Why) → IfOk r Fits → IfCalled Fits (and_then r (λ call. Ok (Some call)))
then_fits (Ok call) h = h
then_fits (Err why) h = tt

said_fits : (words : List (List ℕ)) → IfCalled Fits (said words)
unfolding said
said_fits [] = tt
said_fits (first ∷ words) = either (IfCalled Fits) (is_comment first) _ _ tt (named (name_of first))
  where
    named : (o : Option Name) → IfCalled Fits (and_then (ok_or o UnknownCall) (λ name. and_then (call_of name words) (λ call. Ok (Some call))))
    named (Some name) = then_fits (call_of name words) (call_fits name words)
    named None = tt

-- ---- what the reader checks

-- numbers of 64 bits
abbrev Wide : List ℕ → Type 0
Wide [] = Unit {0}
Wide (n ∷ ns) = (n < 2 ^ 64) × Wide ns

wide_at : (ns : List ℕ) → Wide ns → (j : ℕ) → get_or ns j 0 < 2 ^ 64
wide_at [] w j = lit< tt
wide_at (n ∷ ns) w zero = w.0
wide_at (n ∷ ns) w (suc j) = wide_at ns w.1 j

wide : (call : Call) → Fits call → Wide (values_of call)
unfolding values_of
wide (Estimate rate) h = (lit< tt, (h.1, (lit< tt, (lit< tt, tt))))
wide (Acknowledged rate) h = (lit< tt, (h.1, (lit< tt, (lit< tt, tt))))
wide (AlrOn start) h = (lit< tt, (omega arith, (lit< tt, (lit< tt, tt))))
wide AlrOff h = (lit< tt, (lit< tt, (lit< tt, (lit< tt, tt))))
wide (CapacityIs rate) h = (lit< tt, (h.1, (lit< tt, (lit< tt, tt))))
wide CapacityNone h = (lit< tt, (lit< tt, (lit< tt, (lit< tt, tt))))
wide (Packet time lost size) h = (lit< tt, (omega arith, (omega arith, (omega arith, tt))))
wide (Report rate) h = (lit< tt, (h.1, (lit< tt, (lit< tt, tt))))
wide Read h = (lit< tt, (lit< tt, (lit< tt, (lit< tt, tt))))
wide StartBytes h = (lit< tt, (lit< tt, (lit< tt, (lit< tt, tt))))
wide StartPackets h = (lit< tt, (lit< tt, (lit< tt, (lit< tt, tt))))

taken : (call : Call) → Fits call → check call ≡ Ok tt
unfolding check_time check_packet
taken (Estimate rate) h = h.0
taken (Acknowledged rate) h = h.0
taken (AlrOn start) h = simp (le-leb start latest_time h)
taken AlrOff h = refl
taken (CapacityIs rate) h = h.0
taken CapacityNone h = refl
taken (Packet time lost size) h = simp (le-leb time latest_time h.0, le-leb size largest_packet h.1.1, le-leb lost 1 h.1.0)
taken (Report rate) h = h.0
taken Read h = refl
taken StartBytes h = refl
taken StartPackets h = refl

pub words_taken : WordsTaken
unfolding words_of
words_taken line call e =
    let h : Fits call = subst (IfCalled Fits) e (said_fits (words_in line)) in
    (taken call h, wide_at (values_of call) (wide call h))

pub words_read : WordsRead
words_read line call e =
    let t = words_taken line call e in
    call_says call t.1 t.0

-- A line that is taken is the text of its call in its own width: no two lines of one width say the same call. Assumes nothing.
use Prim.Native.Nat.{ℕ, zero, suc, ◌<◌}
use mathlib.Core.Path.{◌≡◌, refl, sym, ap, ◌∙◌}
use mathlib.Core.Bool.{Bool, true, false, cond, ◌&&◌, ◌||◌, not, true≢false}
use mathlib.Core.List.{List, [], ◌∷◌}
use borrow.Author.Tests.{eqb-true}
use lib.Dec.{eqb}
use lib.ListN.{length, get_or}
use Rattle.std.proofs.lemmas.Bool.{and_parts}
use Rattle.std.proofs.Common.{Option, Some, None, Result, Ok, Err}
use Rattle.refusal.specs.declared.Refusal.{Refusal}
use Rattle.refusal.specs.declared.Refusal.TheVariants.{Flag, NotInShape}
use Rattle.packets.specs.Summary.{check_time}
use Rattle.call_line.specs.declared.Fields.{Fields}
use Rattle.call_line.specs.declared.Call.{Call}
use Rattle.call_line.specs.declared.Call.TheVariants.{Estimate, Acknowledged, AlrOn, AlrOff, CapacityIs, CapacityNone, Packet, Report, Read, StartBytes, StartPackets}
use Rattle.call_line.specs.Column.{total, row}
use Rattle.call_line.specs.Line.{fields_in, fields_of, in_table, check_bits, unless_refused, by_flag, alr_of, capacity_of, packet_of, call_of}
use Rattle.call_line.specs.Line.{zeros, start_of, values_of, fields, checked, told, said, line_of}
use Rattle.call_line.proofs.Columns.{Shape}
use Rattle.call_line.proofs.RoundTrip.{Fits, length_row, line_written, fields_fit, line_read}

two_zeros : (b c : ℕ) → zeros b c ≡ true → (b ≡ 0) × (c ≡ 0)
two_zeros b c e = let h = and_parts (eqb b 0) (eqb c 0) e in (eqb-true b 0 h.0, eqb-true c 0 h.1)

-- what is taken is the call
taken_is : (check : Result (Unit {0}) Refusal) (call found : Call) → unless_refused check call ≡ Ok found → found ≡ call
unfolding unless_refused
taken_is (Ok x) call found e = cc
taken_is (Err r) call found e = cc

-- what a flag chooses has these values if its two calls have
flag_is :
    (k a b c : ℕ) (check : Result (Unit {0}) Refusal) (off on found : Call) → values_of off ≡ k ∷ 0 ∷ 0 ∷ 0 ∷ [] → values_of on ≡ k ∷ a ∷ 1 ∷ 0 ∷ []
    → eqb c 0 && (not (eqb b 0) || eqb a 0) ≡ true → by_flag b (Ok off) (unless_refused check on) ≡ Ok found
    → values_of found ≡ k ∷ a ∷ b ∷ c ∷ []
unfolding by_flag
flag_is k a b c check off on found x y h e =
    let p = and_parts (eqb c 0) (not (eqb b 0) || eqb a 0) h in
    rw (eqb-true c 0 p.0) (pick (eqb b 0) (eqb b 1) refl refl p.1 e)
  where
    pick :
        (t u : Bool) → eqb b 0 ≡ t → eqb b 1 ≡ u → not t || eqb a 0 ≡ true
        → cond t (Ok off) (cond u (unless_refused check on) (Err Flag)) ≡ Ok found
        → values_of found ≡ k ∷ a ∷ b ∷ 0 ∷ []
    pick true u p q h e = let f : found ≡ off = cc in rw (eqb-true b 0 p, eqb-true a 0 h, f) x
    pick false true p q h e = rw (eqb-true b 1 q, taken_is check on found e) y
    pick false false p q h e = cc

start_is : (b : ℕ) (found : Call) → start_of b ≡ Ok found → values_of found ≡ 8 ∷ 0 ∷ b ∷ 0 ∷ []
unfolding start_of unless_refused values_of
start_is b found e = flag_is 8 0 b 0 (Ok tt) StartBytes StartPackets found refl refl (nought (eqb b 0)) e
  where
    nought : (t : Bool) → not t || true ≡ true
    nought true = refl
    nought false = refl

values : (k a b c : ℕ) (call : Call) → in_table k a b c ≡ true → call_of k a b c ≡ Ok call → values_of call ≡ k ∷ a ∷ b ∷ c ∷ []
unfolding in_table call_of values_of alr_of capacity_of packet_of
values zero a b c call h e = absurd (true≢false (sym h))
values (suc zero) a b c call h e = let z = two_zeros b c h in rw (taken_is _ _ call e, z.0, z.1)
values (suc (suc zero)) a b c call h e = let z = two_zeros b c h in rw (taken_is _ _ call e, z.0, z.1)
values (suc (suc (suc zero))) a b c call h e = flag_is 3 a b c (check_time a) AlrOff (AlrOn a) call refl refl h e
values (suc (suc (suc (suc zero)))) a b c call h e =
    flag_is 4 a b c (check_bits a) CapacityNone (CapacityIs a) call refl refl h e
values (suc (suc (suc (suc (suc zero))))) a b c call h e = rw (taken_is _ _ call e)
values (suc (suc (suc (suc (suc (suc zero)))))) a b c call h e = let z = two_zeros b c h in rw (taken_is _ _ call e, z.0, z.1)
values (suc (suc (suc (suc (suc (suc (suc zero))))))) a b c call h e =
    let p = and_parts (eqb a 0) (zeros b c) h in
    let z = two_zeros b c p.1 in
    let f : call ≡ Read = cc in rw (f, eqb-true a 0 p.0, z.0, z.1)
values (suc (suc (suc (suc (suc (suc (suc (suc zero)))))))) a b c call h e = let z = two_zeros a c h in rw (z.0, z.1) (start_is b call e)
values (suc (suc (suc (suc (suc (suc (suc (suc (suc k))))))))) a b c call h e = absurd (true≢false (sym h))

-- what is told of a line that is taken
pub told_ok : (kind : ℕ) (r : Result Call Refusal) (call : Call) → told kind r ≡ Ok call → r ≡ Ok call
told_ok kind (Ok found) call e = cc
told_ok kind (Err x) call e = cc

-- a line that is taken has its call's values in its fields
pub taken_fields : (s : List ℕ) (call : Call) → line_of s ≡ Ok call → fields_of s ≡ Some (fields (values_of call))
unfolding line_of said checked
taken_fields s call e = pick (fields_of s) e
  where
    allowed_or_not :
        (f : Fields) (t : Bool) → in_table f.kind f.a f.b f.c ≡ t → cond t (call_of f.kind f.a f.b f.c) (Err NotInShape) ≡ Ok call
        → ◌≡◌ {A = Option Fields} (Some f) (Some (fields (values_of call)))
    allowed_or_not f true h e = sym (ap (λ (ns : List ℕ). Some (fields ns)) (values f.kind f.a f.b f.c call h e))
    allowed_or_not f false h e = cc

    pick : (f : Option Fields) → said f ≡ Ok call → f ≡ Some (fields (values_of call))
    pick (Some f) e = allowed_or_not f (in_table f.kind f.a f.b f.c) refl (told_ok f.kind (checked f) call e)
    pick None e = cc

pub four_values :
    (call : Call)
    → values_of call ≡ get_or (values_of call) 0 0 ∷ get_or (values_of call) 1 0 ∷ get_or (values_of call) 2 0 ∷ get_or (values_of call) 3 0 ∷ []
unfolding values_of
four_values (Estimate bandwidth) = refl
four_values (Acknowledged bitrate) = refl
four_values (AlrOn start) = refl
four_values AlrOff = refl
four_values (CapacityIs bandwidth) = refl
four_values CapacityNone = refl
four_values (Packet time lost size) = refl
four_values (Report delay) = refl
four_values Read = refl
four_values StartBytes = refl
four_values StartPackets = refl

pub four_long : (call : Call) → length (values_of call) ≡ 4
four_long call = ap length (four_values call)

module _ (ws : List ℕ) (w : Shape ws) (s : List ℕ) (l : length s ≡ total ws) (call : Call) (e : line_of s ≡ Ok call) where
  shaped_fields : fields_in ws s ≡ Some (fields (values_of call))
  shaped_fields = sym (w.told s l) ∙ taken_fields s call e

  -- what is read is what is written
  pub call_read : row ws (values_of call) ≡ s
  call_read = ap (row ws) (four_values call) ∙ line_read ws w.columns s l _ _ _ _ shaped_fields

  pub values_fit : (j : ℕ) → j < 4 → Fits (get_or ws j 0) (get_or (values_of call) j 0)
  values_fit = rw (four_values call) (fields_fit ws w.columns s l _ _ _ _ shaped_fields)

-- what is written is read: four numbers that fit their columns are checked as they are
pub line_says :
    (ws : List ℕ) → Shape ws → (k a b c : ℕ) → Fits (get_or ws 0 0) k → Fits (get_or ws 1 0) a → Fits (get_or ws 2 0) b → Fits (get_or ws 3 0) c
    → line_of (row ws (k ∷ a ∷ b ∷ c ∷ [])) ≡ told k (checked (fields (k ∷ a ∷ b ∷ c ∷ [])))
unfolding line_of said
line_says ws w k a b c fk fa fb fc =
    ap said
    (w.told _ (length_row ws (k ∷ a ∷ b ∷ c ∷ []) w.columns.long) ∙ line_written ws w.columns k a b c fk fa fb fc)

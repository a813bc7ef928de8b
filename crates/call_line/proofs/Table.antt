-- What the table of kinds says of the numbers that are no kind, and what a check and a call are together. Assumes nothing.
use Prim.Native.Nat.{ℕ, zero, suc, ◌≤◌}
use mathlib.Core.Path.{◌≡◌, refl}
use native.Mathlib.Omega.{arith}
use lib.ListN.{get_or-eq_default}
use Rattle.std.proofs.Common.{Result, Ok, Err}
use Rattle.std.specs.Result.{result_and}
use Rattle.refusal.specs.Outcome.{and_then}
use Rattle.refusal.specs.declared.Refusal.{Refusal}
use Rattle.refusal.specs.declared.Refusal.TheVariants.{NotInShape}
use Rattle.call_line.specs.declared.Call.{Call}
use Rattle.call_line.specs.Line.{none, rules, rule_of, calls, call_of}

pub rule_rest : (k : ℕ) → (1 ≤ k → k ≤ 8 → ⊥) → rule_of k ≡ none
rule_rest zero h = refl
rule_rest (suc k) h = get_or-eq_default rules none {n = suc k} (omega arith)

pub call_rest : (k a b c : ℕ) → (1 ≤ k → k ≤ 8 → ⊥) → call_of k a b c ≡ Err NotInShape
unfolding call_of
call_rest zero a b c h = refl
call_rest (suc k) a b c h = get_or-eq_default (calls a b c) (Err NotInShape) {n = suc k} (omega arith)

pub and_is : (check : Result (Unit {0}) Refusal) (r : Result Call Refusal) → result_and check r ≡ and_then check (λ _. r)
and_is (Ok x) r = refl
and_is (Err e) r = refl

-- `read_column` meets its contract: the digits begin where the first byte is that is no space. Assumes nothing.
use Rattle.std.proofs.Common.{◌≡◌, ℕ, ◌-◌, Some, length, take, drop, take_all, length-drop, sym, ◌∙◌, rules, arith}
use Rattle.std.proofs.lemmas.Iterator.{IsFirst-from_position, YieldsList-from_slice}
use borrow.Author.Tests.{tests}
use Rattle.call_line.specs.Column.{ascii_space}
use Rattle.call_line.proofs.Columns.{after_spaces}
use Rattle.call_line.proofs.read_column.Goals as goal

pub returns : goal.returns
returns c =
    let s = c.args.column.now in
    let p = c.in_ok-spaces in
    let f =
    IsFirst-from_position _ _ (Some p.spaces) (λ (b : ℕ). b ≡ ascii_space → ⊥) (λ (b : ℕ). b ≡ ascii_space) p.ensures.ran (YieldsList-from_slice s cc) (λ x q k. search (rules, tests)) (λ x q k. search (rules, tests)) in
    let t : take (length s - p.spaces) (drop p.spaces s) ≡ drop p.spaces s =
    take_all (length s - p.spaces) (drop p.spaces s) (omega (arith, length-drop p.spaces s)) in
    c.read_number.ensures
    ∙ rw t (sym (after_spaces s p.spaces f.0 (λ k l. f.2 k 0 (omega arith) l) (f.1 0)))

use Rattle.std.proofs.Common.{sym, ◌∙◌, arith, length-take}
use Rattle.call_list.proofs.Lines.{stands}
use Rattle.call_list.proofs.whole_call.Goals as goal

pub slice_bounds-read_line-end : goal.slice_bounds-read_line-end
slice_bounds-read_line-end c =
    let h = stands _ _ (sym c.standing.ensures ∙ c.in_ok-width.was) in
    omega (arith, h.long, length-take c.in_ok-width.width c.args.chunk.now)

pub overflow_add-result : goal.overflow_add-result
overflow_add-result c = let h = stands _ _ (sym c.standing.ensures ∙ c.in_ok-width.was) in omega (arith, h.short)

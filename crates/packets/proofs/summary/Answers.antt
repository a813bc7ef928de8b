-- `packets::summary` meets its contract. Assumes nothing.
use Rattle.std.proofs.Common.{sym, ◌∙◌, arith, rules, length}
use Rattle.std.proofs.Math.ListN.{length-append}
use Rattle.packets.specs.Summary.{summary_of}
use Rattle.packets.proofs.Totals.{not_refused, row_given, rows_given, columns_turn, columns_end, none_within, within_larger, within_more, of_report}
use Rattle.packets.proofs.summary.Goals as goal

pub loop-time-init : goal.loop-time-init
unfolding summary_of
loop-time-init c =
    let e = sym c.check_columns.ensures ∙ c.in_ok-check_columns.was in
    (none_within 0, not_refused _ _ _ e, rw e)

pub add_packet-requires : goal.add_packet-requires
add_packet-requires c =
    let row = row_given c.args.times.now c.args.sizes.now c.args.flags.now c.into_iter-time-iterator.result (cc) (cc) (cc) c.loop-time.yielded c.loop-time.time-iterator c.next.new.self _ c.loop-time.yielded_by c.next.ensures.steps _ c.in-Some.is in
    let w = c.loop-time.invariant.0 in
    let e = c.loop-time.invariant.1 in
    (of_report _ (within_larger _ (omega (arith, e.few, row.0)) w), omega (arith, e.few, w.packets_within, row.0))

pub returns-in_err-summary : goal.returns-in_err-summary
returns-in_err-summary c =
    let row = row_given c.args.times.now c.args.sizes.now c.args.flags.now c.into_iter-time-iterator.result (cc) (cc) (cc) c.loop-time.yielded c.loop-time.time-iterator c.next.new.self _ c.loop-time.yielded_by c.next.ensures.steps _ c.in-Some.is in
    let turn = columns_turn c.loop-time.invariant.1 c.loop-time.summary (length c.loop-time.yielded) row.0 in
    let added = sym c.add_packet.ensures ∙ c.in_err-summary.was in
    rw (sym c.loop-time.invariant.2 ∙ rw (row.1, added) at turn) (search rules)

pub loop-time-preserved : goal.loop-time-preserved
loop-time-preserved c =
    let row = row_given c.args.times.now c.args.sizes.now c.args.flags.now c.into_iter-time-iterator.result (cc) (cc) (cc) c.loop-time.yielded c.loop-time.time-iterator c.next.new.self _ c.loop-time.yielded_by c.next.ensures.steps _ c.in-Some.is in
    let turn = columns_turn c.loop-time.invariant.1 c.loop-time.summary (length c.loop-time.yielded) row.0 in
    let added = sym c.add_packet.ensures ∙ c.in_ok-summary.was in
    rw length-append (within_more _ _ _ _ added c.loop-time.invariant.0, c.loop-time.invariant.1, sym (rw (row.1, added) at turn) ∙ c.loop-time.invariant.2)

pub returns : goal.returns
returns c =
    let e = c.loop-time.invariant.1 in
    let all =
    rows_given c.args.times.now c.args.sizes.now c.args.flags.now c.into_iter-time-iterator.result (cc) (cc) (cc) c.loop-time.yielded c.loop-time.time-iterator c.next.new.self _ c.loop-time.yielded_by c.next.ensures.steps e c.in-None.is in
    sym (columns_end e c.loop-time.summary (length c.loop-time.yielded) all) ∙ c.loop-time.invariant.2

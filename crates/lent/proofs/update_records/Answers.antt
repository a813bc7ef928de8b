-- `update_records` meets its contract: a turn and the end of its loop are proofs/Records. Assumes nothing.
use Rattle.std.proofs.Common.{sym, ◌∙◌, rules}
use Rattle.lent.proofs.Records.{summed_more, record_refused, summed_all, too_many, rate_refused, whole, same_report}
use Rattle.lent.proofs.update_records.Goals as goal

pub returns-then-records-gt-MOST_PACKETS_IN_REPORT : goal.returns-then-records-gt-MOST_PACKETS_IN_REPORT
returns-then-records-gt-MOST_PACKETS_IN_REPORT c = sym (too_many _ _ _ c.if-records-gt-MOST_PACKETS_IN_REPORT.true)

pub returns-in_err-check_rate : goal.returns-in_err-check_rate
returns-in_err-check_rate c =
    rw (rate_refused _ _ _ c.if-records-gt-MOST_PACKETS_IN_REPORT.false _ (sym c.check_rate.ensures ∙ c.in_err-check_rate.was)) (search rules)

pub returns-in_err-summary : goal.returns-in_err-summary
returns-in_err-summary c =
    let rate = sym c.check_rate.ensures ∙ c.in_ok-check_rate.was in
    let k = c.loop-record.invariant in
    let e = record_refused _ _ _ k _ c.loop-record-test.true _ (sym c.add.ensures ∙ c.in_err-summary.was) in
    rw (whole _ _ _ k.few rate, e) (search rules)

pub loop-record-preserved : goal.loop-record-preserved
loop-record-preserved c =
    summed_more _ _ _ c.loop-record.invariant _ c.loop-record-test.true _ (sym c.add.ensures ∙ c.in_ok-summary.was)

pub returns : goal.returns
returns c =
    let rate = sym c.check_rate.ensures ∙ c.in_ok-check_rate.was in
    let k = c.loop-record.invariant in
    c.update_with_summary.ensures ∙ same_report _ _ _ k.few rate _ (summed_all _ _ _ k c.loop-record-test.false)

-- `update_records`: what the totals of the records so far are (proofs/Records).
use Rattle.lent.proofs.Records.{Summed}
use Rattle.lent.proofs.update_records.Given as goal

abbrev pub invariant-loop-record : goal.invariant-loop-record
invariant-loop-record l = Summed l.records l.record-index l.summary

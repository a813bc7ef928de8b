use Rattle.std.proofs.Common.{rules, ◌≡◌, length}
use Rattle.call_list.specs.Feed.{kept}
use Rattle.call_list.proofs.Places.{none_put, bytes_put, rest_stays}
use Rattle.call_list.proofs.Line.extend.Goals as goal

pub returns-then-self-ge-KEPT-clause-kept : goal.returns-then-self-ge-KEPT-clause-kept
returns-then-self-ge-KEPT-clause-kept c =
    let long : length c.args.self.now.bytes ≡ kept = let y = c.well_formed in search rules in
    none_put _ _ _ long c.if-self-ge-KEPT.true

pub returns-clause-kept : goal.returns-clause-kept
returns-clause-kept c =
    let long : length c.args.self.now.bytes ≡ kept = let y = c.well_formed in search rules in
    bytes_put _ _ _ _ _ long c.if-self-ge-KEPT.false c.min-kept.ensures c.copy_from_slice.ensures.after

pub returns-clause-behind : goal.returns-clause-behind
returns-clause-behind c =
    let long : length c.args.self.now.bytes ≡ kept = let y = c.well_formed in search rules in
    rest_stays _ _ _ _ _ long c.if-self-ge-KEPT.false c.min-kept.ensures c.copy_from_slice.ensures.after

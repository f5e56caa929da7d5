-- One outcome more.
use Rattle.std.proofs.Common.{take}
use Rattle.title_settle.proofs.{Seen.{taken_more}, Unknowns.{least_more}}
use Rattle.title_settle.proofs.comparison.least_unknown.Goals as goal

pub loop-outcome-preserved : goal.loop-outcome-preserved
loop-outcome-preserved c =
    let records = c.args.records.now in
    let outcomes = c.args.outcomes.now in
    let i = c.loop-outcome.outcome-index in
    let o = c.outcome-item.result in
    rw (c.lesser_unknown-least.ensures.lesser, taken_more outcomes i o c.loop-outcome-test.true c.outcome-item.is)
    (least_more records (take i outcomes) c.loop-outcome.least o c.loop-outcome.invariant)

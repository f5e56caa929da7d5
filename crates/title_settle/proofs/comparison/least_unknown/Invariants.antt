-- It is the least unknown place of the outcomes so far.
use Rattle.std.proofs.Common.{take}
use Rattle.title_settle.specs.Marks.{IsLeastUnknown}
use Rattle.title_settle.proofs.comparison.least_unknown.Given as goal

abbrev pub invariant-loop-outcome : goal.invariant-loop-outcome
invariant-loop-outcome l = IsLeastUnknown l.records (take l.outcome-index l.outcomes) l.least

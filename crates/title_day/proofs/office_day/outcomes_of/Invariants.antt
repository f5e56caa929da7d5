-- The outcomes of the records so far.
use Rattle.std.proofs.Common.{◌≡◌, take}
use Rattle.title_day.specs.OfficeRecords.{placed}
use Rattle.title_day.proofs.office_day.outcomes_of.Given as goal

abbrev pub invariant-loop-index : goal.invariant-loop-index
invariant-loop-index l = l.outcomes.items ≡ placed 1 (take l.index l.records)

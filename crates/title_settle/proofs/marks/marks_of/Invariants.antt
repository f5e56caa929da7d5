-- The marks are those of the outcomes so far.
use Rattle.std.proofs.Common.{take}
use Rattle.title_settle.specs.Marks.{AreMarks}
use Rattle.title_settle.proofs.marks.marks_of.Given as goal

abbrev pub invariant-loop-index : goal.invariant-loop-index
invariant-loop-index l = AreMarks l.places l.outcomes (take l.index l.outcomes) l.marks.items

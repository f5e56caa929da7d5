use Rattle.std.proofs.Common.{◌-◌, length}
use Rattle.title_journal.proofs.Splitting.{IsSplit, contents}
use Rattle.title_journal.proofs.split.split.Given as goal

abbrev pub invariant-loop-offset : goal.invariant-loop-offset
invariant-loop-offset l = IsSplit l.file (contents l.texts.items) l.offset

abbrev pub decreases-loop-offset : goal.decreases-loop-offset
decreases-loop-offset l = length l.file - l.offset

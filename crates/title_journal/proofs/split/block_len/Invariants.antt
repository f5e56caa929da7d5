use Rattle.std.proofs.Common.{◌≤◌, ◌-◌, length, take}
use Rattle.title_journal.proofs.split.block_len.Given as goal
use Rattle.title_journal.specs.Laws.Rows.{SomeRows}

abbrev pub invariant-loop-len : goal.invariant-loop-len
invariant-loop-len l = record { within : l.at ≤ length l.bytes; rows : SomeRows (take l.at l.bytes) }

abbrev pub decreases-loop-len : goal.decreases-loop-len
decreases-loop-len l = length l.bytes - l.at

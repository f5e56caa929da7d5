use Rattle.std.proofs.Common.{◌-◌, length}
use Rattle.title_file.proofs.Walking.{IsWalked}
use Rattle.title_file.proofs.gates.find_gates.Given as goal

abbrev pub invariant-loop-offset : goal.invariant-loop-offset
invariant-loop-offset l = IsWalked l.head l.file l.opened l.offset

abbrev pub decreases-loop-offset : goal.decreases-loop-offset
decreases-loop-offset l = length l.file - l.offset

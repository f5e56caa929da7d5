-- None of the townships passed stands twice.
use Rattle.std.proofs.Common.{◌↔◌, length}
use Rattle.title_store.specs.Plants.{IsEachOnce}
use Rattle.title_desk.proofs.desk.each_once.Given as goal

abbrev pub invariant-loop-rest : goal.invariant-loop-rest
invariant-loop-rest l = IsEachOnce l.rest ↔ IsEachOnce l.townships

abbrev pub decreases-loop-rest : goal.decreases-loop-rest
decreases-loop-rest l = length l.rest

-- What is left of the entries says of all others what the whole map says.
use Rattle.title_lock.proofs.FirstLaws.{Carries}
use Rattle.title_lock.proofs.slots.search.Given as goal

abbrev pub invariant-loop-other : goal.invariant-loop-other
invariant-loop-other l = Carries l.wanted l.modes.entries l.other-iterator l.examiner

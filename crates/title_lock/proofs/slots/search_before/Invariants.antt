-- What is left of the entries says of all others what those before the end say.
use Rattle.title_lock.proofs.FirstLaws.{Carries, before}
use Rattle.title_lock.proofs.slots.search_before.Given as goal

abbrev pub invariant-loop-other : goal.invariant-loop-other
invariant-loop-other l = Carries l.wanted (before l.end l.modes.entries) l.other-iterator l.examiner

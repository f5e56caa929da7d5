-- The seat stays its examiner's, and has seen no fewer records.
use Rattle.title_office.specs.Turns.{IsLater}
use Rattle.title_office.proofs.workers.bench.Bench.transact.Given as goal

abbrev pub invariant-loop : goal.invariant-loop
invariant-loop g l = IsLater l.initial.seat l.seat

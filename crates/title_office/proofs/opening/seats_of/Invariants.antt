-- The seats so far.
use Rattle.std.proofs.Common.{◌≡◌}
use Rattle.title_office.specs.Offices.{opening_seats}
use Rattle.title_office.proofs.opening.seats_of.Given as goal

abbrev pub invariant-loop-before : goal.invariant-loop-before
invariant-loop-before g l = l.seats.items ≡ opening_seats l.number l.before

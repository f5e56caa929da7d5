-- The scripts so far are those of the seats passed.
use Rattle.std.proofs.Common.{◌≡◌, take}
use Rattle.title_office.specs.Workers.{examiners_of, seat_examiners}
use Rattle.title_refusals.proofs.crew.scripts_for.Given as goal

abbrev pub invariant-loop-seat : goal.invariant-loop-seat
invariant-loop-seat g l = seat_examiners (take l.seat-index l.seats) ≡ examiners_of l.scripts.items

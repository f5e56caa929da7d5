-- The copy has the steps so far.
use Rattle.std.proofs.Common.{◌≡◌, take}
use Rattle.title_office.proofs.books.copy_steps.Given as goal

abbrev pub invariant-loop-step : goal.invariant-loop-step
invariant-loop-step l = l.items.items ≡ take l.step-index l.steps

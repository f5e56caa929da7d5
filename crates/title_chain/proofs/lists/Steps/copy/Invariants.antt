-- The copy has the elements so far.
use Rattle.std.proofs.Common.{◌≡◌, take}
use Rattle.title_chain.proofs.lists.Steps.copy.Given as goal

abbrev pub invariant-loop-step : goal.invariant-loop-step
invariant-loop-step l = l.items.items ≡ take l.step-index l.steps

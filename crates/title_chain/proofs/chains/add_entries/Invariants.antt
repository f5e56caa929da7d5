-- The entries of the steps so far are added.
use Rattle.std.proofs.Common.{◌≡◌, ◌++◌, reverse, take}
use Rattle.title_chain.specs.StepEntries.{step_entries}
use Rattle.title_chain.proofs.chains.add_entries.Given as goal

abbrev pub invariant-loop-step : goal.invariant-loop-step
invariant-loop-step l = l.entries.items ≡ l.initial.entries.items ++ step_entries l.place l.tract (reverse (take l.step-index l.steps))

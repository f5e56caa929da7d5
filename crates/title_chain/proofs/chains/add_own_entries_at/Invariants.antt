-- The entries at the spots so far are added.
use Rattle.std.{proofs.Common.{◌≡◌, ◌++◌, take}, specs.List.{flat_map}}
use Rattle.title_chain.specs.PostSpots.{own_entry_at}
use Rattle.title_chain.proofs.chains.add_own_entries_at.Given as goal

abbrev pub invariant-loop-spot : goal.invariant-loop-spot
invariant-loop-spot l = l.entries.items ≡ l.initial.entries.items ++ flat_map (own_entry_at l.steps) (take l.spot-index l.spots)

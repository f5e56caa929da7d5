-- The first so many records are published.
use Rattle.std.proofs.Common.{◌≡◌, take}
use Rattle.title_office.proofs.opening_on.publish_all.Given as goal

abbrev pub invariant-loop-rec : goal.invariant-loop-rec
invariant-loop-rec g l = l.fronts ≡ take l.rec-index l.records

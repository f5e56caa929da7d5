-- The townships of the parts so far.
use Rattle.std.proofs.Common.{◌≡◌, take}
use Rattle.title_plat.specs.Drawn.{townships_of}
use Rattle.title_plat.proofs.frame.townships_of.Given as goal

abbrev pub invariant-loop-part : goal.invariant-loop-part
invariant-loop-part l = l.townships.items ≡ townships_of (take l.part-index l.parts)

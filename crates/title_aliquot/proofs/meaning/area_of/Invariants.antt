-- What the loop of `area_of` keeps.
use Rattle.std.proofs.Common.{drop}
use Rattle.title_land.specs.Depth.{depth}
use Rattle.title_aliquot.proofs.Areas.{Walked}
use Rattle.title_aliquot.proofs.meaning.area_of.Given as goal

abbrev pub invariant-entries : goal.invariant-entries
invariant-entries l = Walked depth (drop l.index l.entries) l.shape l.area

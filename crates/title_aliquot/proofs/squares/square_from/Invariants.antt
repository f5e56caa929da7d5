-- What the loop of `square_from` keeps.
use Rattle.std.proofs.Common.{◌≤◌, drop}
use Rattle.title_aliquot.specs.Squares.{IsSquared}
use Rattle.title_aliquot.proofs.squares.square_from.Given as goal

abbrev pub invariant-entries : goal.invariant-entries
invariant-entries l = record { behind : l.first ≤ l.index; squared : IsSquared (drop l.index l.entries) l.within }

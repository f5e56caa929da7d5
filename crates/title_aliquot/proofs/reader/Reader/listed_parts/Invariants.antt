-- What the loop of `listed_parts` keeps.
use Rattle.std.proofs.Common.{◌≡◌, length}
use Rattle.title_aliquot.{specs.Readers.{parts_at}, proofs.Loops.{parts_from}}
use Rattle.title_aliquot.proofs.reader.Reader.listed_parts.Given as goal

abbrev pub invariant-more : goal.invariant-more
invariant-more l = parts_at l.fn.self ≡ parts_from l.parts l.self

abbrev pub decreases-more : goal.decreases-more
decreases-more l = length l.self

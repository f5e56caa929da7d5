-- What the loop of `part` keeps.
use Rattle.std.proofs.Common.{◌≡◌, ◌<◌, length}
use Rattle.title_aliquot.{specs.Readers.{part_at, with_part}, proofs.Loops.{steps_from}}
use Rattle.title_aliquot.proofs.reader.Reader.part.Given as goal

abbrev pub invariant-steps : goal.invariant-steps
invariant-steps l = record {
  begun : 0 < length l.parts;
  read : with_part l.fn.parts part_at l.fn.self ≡ steps_from l.parts l.self;
}

abbrev pub decreases-steps : goal.decreases-steps
decreases-steps l = length l.self

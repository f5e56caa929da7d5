-- What the loop of `number` keeps.
use Rattle.std.proofs.Common.{◌≡◌, ◌≤◌, length}
use Rattle.title_aliquot.{specs.Readers.{number_at}, proofs.Loops.{number_from}}
use Rattle.title_aliquot.proofs.reader.Reader.number.Given as goal

abbrev pub invariant-digits : goal.invariant-digits
invariant-digits l = record { below : l.number ≤ 100; read : number_at l.fn.self ≡ number_from l.number l.self }

abbrev pub decreases-digits : goal.decreases-digits
decreases-digits l = length l.self

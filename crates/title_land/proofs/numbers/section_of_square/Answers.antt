-- What is left of it.
use Rattle.title_land.specs.Laws.NodeNumbers.{section_at}
use Rattle.title_land.proofs.numbers.section_of_square.Goals as goal

pub returns : goal.returns
returns c = record { section = section_at c.args.number }

-- What is left of it.
use Rattle.title_land.specs.Laws.NodeNumbers.{township_at}
use Rattle.title_land.proofs.numbers.township_of_section.Goals as goal

pub returns : goal.returns
returns c = record { township = township_at c.args.number }

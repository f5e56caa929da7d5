-- The law that numbers go up as nodes do.
use Rattle.title_land.specs.Laws.NodeNumbers.{numbers_go_up as lemma}
use Rattle.title_land.proofs.laws.numbers_go_up.Goals as goal

pub returns : goal.returns
returns c = record { law = lemma }

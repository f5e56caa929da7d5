-- The law that numbers tell nodes apart.
use Rattle.title_land.specs.Laws.NodeNumbers.{numbers_tell_nodes as lemma}
use Rattle.title_land.proofs.laws.numbers_tell_nodes.Goals as goal

pub returns : goal.returns
returns c = record { law = lemma }

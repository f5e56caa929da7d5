-- The law is a lemma.
use Rattle.title_land.specs.Laws.CoversDoubled.{node_land_doubles as lemma}
use Rattle.title_land.proofs.doubled.node_land_doubles.Goals as goal

pub returns : goal.returns
returns c = record { law = lemma }

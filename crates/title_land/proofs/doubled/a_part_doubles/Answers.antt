-- The law is a lemma.
use Rattle.title_land.specs.Laws.PartsDoubled.{a_part_doubles as lemma}
use Rattle.title_land.proofs.doubled.a_part_doubles.Goals as goal

pub returns : goal.returns
returns c = record { law = lemma }

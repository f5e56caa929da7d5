-- The law is a lemma.
use Rattle.title_land.specs.Depth.{depth}
use Rattle.title_aliquot.specs.Laws.Readings.{readings_agree as lemma}
use Rattle.title_aliquot.proofs.laws.readings_agree.Goals as goal

pub returns : goal.returns
returns c = record { law = lemma depth }

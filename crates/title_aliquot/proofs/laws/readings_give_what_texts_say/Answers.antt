-- The laws are lemmas.
use Rattle.title_land.specs.Depth.{depth}
use Rattle.title_aliquot.specs.Laws.Readings.{gives_the_land, gives_the_fault}
use Rattle.title_aliquot.proofs.laws.readings_give_what_texts_say.Goals as goal

pub returns-clause-land : goal.returns-clause-land
returns-clause-land c = gives_the_land depth

pub returns-clause-fault : goal.returns-clause-fault
returns-clause-fault c = gives_the_fault depth

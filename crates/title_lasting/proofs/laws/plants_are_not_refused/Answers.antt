-- The law is a lemma.
use Rattle.title_lasting.specs.Laws.Plants.{plants_are_not_refused}
use Rattle.title_lasting.proofs.laws.plants_are_not_refused.Goals as goal

pub returns : goal.returns
returns c = record { law = plants_are_not_refused }

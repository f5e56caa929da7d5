-- The law above by parent.
use Rattle.title_land.specs.Laws.CoverSet.{above_by_parent as lemma}
use Rattle.title_land.proofs.laws.above_by_parent.Goals as goal

pub returns : goal.returns
returns c = record { law = lemma }

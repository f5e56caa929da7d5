-- The law above is transitive.
use Rattle.title_land.specs.Laws.NodeSharing.{above_is_transitive as lemma}
use Rattle.title_land.proofs.laws.above_is_transitive.Goals as goal

pub returns : goal.returns
returns c = record { law = lemma }

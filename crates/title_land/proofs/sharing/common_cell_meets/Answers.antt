-- The law of common_cell_meets.
use Rattle.title_land.specs.Laws.TractSharing.{common_meets as lemma}
use Rattle.title_land.proofs.sharing.common_cell_meets.Goals as goal

pub returns : goal.returns
returns c = record { law = lemma }

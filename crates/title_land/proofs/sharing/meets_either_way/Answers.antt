-- The law of meets_either_way.
use Rattle.title_land.specs.Laws.TractSharing.{meets_either_way as lemma}
use Rattle.title_land.proofs.sharing.meets_either_way.Goals as goal

pub returns : goal.returns
returns c = record { law = lemma }

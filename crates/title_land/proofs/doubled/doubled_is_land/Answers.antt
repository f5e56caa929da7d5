-- The law is a lemma.
use Rattle.title_land.specs.Laws.CoversDoubled.{doubled_is_land as lemma}
use Rattle.title_land.proofs.doubled.doubled_is_land.Goals as goal

pub returns : goal.returns
returns c = record { law = lemma }

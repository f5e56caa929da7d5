-- The law is a lemma.
use Rattle.title_aliquot.proofs.TextsDoubled.{land_doubles as lemma}
use Rattle.title_aliquot.proofs.depth_laws.land_doubles.Goals as goal

pub returns : goal.returns
returns c = record { law = lemma }

-- The law is a lemma.
use Rattle.title_aliquot.proofs.TextsDoubled.{fault_stays as lemma}
use Rattle.title_aliquot.proofs.depth_laws.fault_stays.Goals as goal

pub returns : goal.returns
returns c = record { law = lemma }

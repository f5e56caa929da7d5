-- What was left to show of `reads_back`.
use Rattle.title_aliquot.proofs.NodeCovers.{reads_back as lemma}
use Rattle.title_aliquot.proofs.laws.reads_back.Goals as goal

pub returns : goal.returns
returns c = record { law = lemma }

-- The law, by those of texts and nodes.
use Rattle.title_spelling.proofs.RowsSaid.{marks_back as lemma}
use Rattle.title_spelling.proofs.laws.marks_read_back.Goals as goal

pub returns : goal.returns
returns c = record { law = lemma c.reads_back.ensures.law c.texts_are_read.ensures.land }

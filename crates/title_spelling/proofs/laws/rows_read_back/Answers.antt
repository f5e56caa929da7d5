-- The law of rows.
use Rattle.title_spelling.proofs.RowsRead.{rows_back as lemma}
use Rattle.title_spelling.proofs.laws.rows_read_back.Goals as goal

pub returns : goal.returns
returns c = record { law = lemma }

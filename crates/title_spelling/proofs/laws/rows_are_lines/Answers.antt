-- The law of rows.
use Rattle.title_spelling.proofs.Lines.{lines as lemma}
use Rattle.title_spelling.proofs.laws.rows_are_lines.Goals as goal

pub returns : goal.returns
returns c = record { law = lemma }

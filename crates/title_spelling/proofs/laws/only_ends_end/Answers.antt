-- The law of rows.
use Rattle.title_spelling.proofs.Lines.{ends as lemma}
use Rattle.title_spelling.proofs.laws.only_ends_end.Goals as goal

pub returns : goal.returns
returns c = record { law = lemma }

-- The law, by its lemmas.
use Rattle.title_command.proofs.OfficeWords.{at_most, by_default}
use Rattle.title_command.proofs.laws.office_words_are_said.Goals as goal

pub returns : goal.returns
returns c = record { default = by_default; most = at_most }

-- The law, by its lemma.
use Rattle.title_command.proofs.KeptOfficeWords.{on_plant}
use Rattle.title_command.proofs.laws.kept_office_words_are_said.Goals as goal

pub returns : goal.returns
returns c = record { kept = on_plant }

-- The law, by its lemmas.
use Rattle.title_command.proofs.KeptWords.{by_words, place_alone}
use Rattle.title_command.proofs.laws.kept_words_are_said.Goals as goal

pub returns : goal.returns
returns c = record { kept = by_words; alone = place_alone }
